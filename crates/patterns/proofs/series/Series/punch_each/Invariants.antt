-- The invariant is that of every series of hits, for each pattern whose hits lie there.
use Rattle.aries.specs.declared.block.Pattern.{Pattern}
use Rattle.aries.specs.Runs.{lent}
use Rattle.patterns.specs.Series.{LieAt}
use Rattle.patterns.proofs.Comes.{UnderWay}
use Rattle.patterns.proofs.series.Series.punch_each.Given as goal

abbrev pub invariant-loop-k : goal.invariant-loop-k
invariant-loop-k g l =
    (p : Pattern) → LieAt (goal.F-post g l.place) p l.self.start l.count
    → UnderWay l.self p l.count (lent l.initial.list) (lent l.list) l.reached l.k
