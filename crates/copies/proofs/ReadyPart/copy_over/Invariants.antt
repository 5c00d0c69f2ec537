-- The invariant: the cursor is that of the next copy, and whoever makes the copies that are left has made them all.
use mathlib.Core.Path.{◌≡◌}
use lib.ListN.{length}
use Rattle.aries.specs.Judging.{limits}
use Rattle.aries.specs.Runs.{entries_made, lent_both}
use Rattle.aries.proofs.Runs.{Leads}
use Rattle.aries.specs.Lanes.{lane_end}
use Rattle.lanes.specs.Cursors.{passed}
use Rattle.copies.specs.Copying.{part_by, all_copies}
use Rattle.copies.proofs.CopyAll.{copies_from}
use Rattle.copies.proofs.ReadyPart.copy_over.Given as goal

abbrev pub invariant-loop : goal.invariant-loop
invariant-loop l =
    record {
      ends : l.cursor.last ≡ lane_end l.places.copies.vertical l.places.layout.steps;
      here : passed l.cursor ≡ l.counter;
      same_length : length l.list ≡ length l.initial.list;
      leads :
          Leads entries_made l.frame.job (lent_both l.list l.tally) l.progress.entries
          (copies_from (limits l.frame.job) (part_by (limits l.frame.job) l.self) l.frame l.line l.found l.places l.counter l.progress)
          (lent_both l.initial.list l.initial.tally) l.initial.progress.entries
          (all_copies (limits l.frame.job) (part_by (limits l.frame.job) l.self) l.frame l.line l.places l.initial.progress);
    }
