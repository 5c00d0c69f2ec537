-- The cycle of calls: a call that the block runner comes to goes to the body runner, and that has the blocks of its body carried out
-- with one call less to open. Both fall in a measure of twice the calls left.
-- The invariant of the block runner: whoever carries out the lines from the place that the loop has come to has carried out the
-- whole.
use Rattle.std.proofs.Common.{◌+◌, ◌*◌, ◌-◌, length, drop}
use Rattle.aries.specs.Judging.{limits}
use Rattle.aries.specs.Macros.{bodies_of, call, run_lines}
use Rattle.aries.specs.Reader.{reader_of}
use Rattle.aries.specs.Runs.{lent_both, entries_made}
use Rattle.aries.specs.Steady.{GivenNear}
use Rattle.aries.specs.Text.{lines}
use Rattle.aries.proofs.Runs.{Leads}
use Rattle.stretches.specs.Lookahead.{Read}
use Rattle.bodies.proofs.+calls.Given as goal

abbrev pub decreases-run_body : goal.decreases-run_body
decreases-run_body l = 2 * l.depth

abbrev pub decreases-run_source : goal.decreases-run_source
decreases-run_source l = 2 * l.depth + 1

abbrev pub invariant-run_source-loop-sequel : goal.invariant-run_source-loop-sequel
invariant-run_source-loop-sequel l =
    let carried = run_lines (limits l.frame.job) (call (limits l.frame.job) (bodies_of l.stored.text.now l.stored.macros.now) l.depth) l.frame in
    record {
      read : Read (reader_of l.frame l.progress.state) l.rest;
      given : GivenNear l.progress.state;
      leads :
          Leads entries_made l.frame.job (lent_both l.list l.tally) l.progress.entries (carried l.rest.from.line (lines (drop l.rest.from.offset l.rest.text.now)) l.progress)
          (lent_both l.initial.list l.initial.tally) l.initial.progress.entries (carried l.source.from.line (lines (drop l.source.from.offset l.source.text.now)) l.initial.progress);
    }

abbrev pub decreases-run_source-loop-sequel : goal.decreases-run_source-loop-sequel
decreases-run_source-loop-sequel l = length l.rest.text.now - l.rest.from.offset
