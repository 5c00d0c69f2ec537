-- The invariant is that of every series of hits, at a grid, and that the cursor is at place k.
use mathlib.Core.Path.{◌≡◌}
use Rattle.lanes.specs.Cursors.{passed}
use Rattle.aries.specs.Lanes.{lane_end}
use Rattle.aries.specs.declared.block.Pattern.TheVariants.{Grid}
use Rattle.aries.specs.Runs.{lent}
use Rattle.patterns.proofs.Comes.{UnderWay}
use Rattle.patterns.proofs.series.Series.punch_grid.Given as goal

abbrev pub invariant-loop-k : goal.invariant-loop-k
invariant-loop-k l =
    record {
      ends : l.cursor.last ≡ lane_end l.vertical l.fn.steps;
      at_place : passed l.cursor ≡ l.k;
      under_way : UnderWay l.self (Grid l.vertical l.pitch l.fn.steps) l.count (lent l.initial.list) (lent l.list) l.reached l.k;
    }
