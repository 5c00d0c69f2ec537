-- The invariant: the text is under way. What each turn makes of that goes by what comes next.
use Prim.Native.Nat.{◌-◌}
use lib.ListN.{length}
use Rattle.aries.specs.Runs.{lent_both}
use Rattle.program.proofs.Underway.{Underway}
use Rattle.program.proofs.lines.run_text.Given as goal

abbrev pub invariant-loop-from : goal.invariant-loop-from
invariant-loop-from l = Underway l.fn.job (lent_both l.initial.list l.initial.tally) l.text (lent_both l.list l.tally) l.program l.from

abbrev pub decreases-loop-from : goal.decreases-loop-from
decreases-loop-from l = length l.text - l.from.offset
