-- The loop's invariant: what is ahead is known, and whoever carries out the stretch from there on has carried out the whole.
use lib.ListN.{drop}
use Rattle.aries.specs.Judging.{limits}
use Rattle.aries.specs.Reader.{reader_of}
use Rattle.aries.specs.Runs.{lent_both}
use Rattle.aries.specs.Text.{lines}
use Rattle.aries.proofs.Runs.{Leads}
use Rattle.stretches.specs.Stretches.{stretch, entries_of_stretch}
use Rattle.stretches.proofs.Turns.{KnownAhead, rest_by, left_by}
use Rattle.stretches.proofs.run_stretch.Given as goal

abbrev pub invariant-loop-next : goal.invariant-loop-next
invariant-loop-next l =
    let j = limits l.frame.job in
    record {
      known : KnownAhead (reader_of l.frame l.progress.state) l.text l.next;
      leads :
          Leads entries_of_stretch l.frame.job (lent_both l.list l.tally) l.progress.entries (rest_by j l.frame l.text l.progress l.next)
          (lent_both l.initial.list l.initial.tally) l.initial.progress.entries (stretch j l.frame l.source.from (lines (drop l.source.from.offset l.text)) l.initial.progress);
    }

abbrev pub decreases-loop-next : goal.decreases-loop-next
decreases-loop-next l = left_by l.text l.next
