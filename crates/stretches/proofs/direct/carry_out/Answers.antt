-- Each arm is that of the definition.
use Rattle.aries.specs.Macros.{carry_direct}
use Rattle.aries.proofs.Runs.{ran_no_entry}
use Rattle.stretches.proofs.direct.carry_out.Goals as goal

pub returns-in-Lone : goal.returns-in-Lone
unfolding carry_direct
returns-in-Lone c = rw (c.in-Lone.is, c.dropping-progress.ensures) ran_no_entry

pub returns-in-Move : goal.returns-in-Move
unfolding carry_direct
returns-in-Move c = rw c.in-Move.is (c.move_to.ensures _)

pub returns-in-PatternOrigin : goal.returns-in-PatternOrigin
unfolding carry_direct
returns-in-PatternOrigin c = rw c.in-PatternOrigin.is (c.set_pattern_origin.ensures _)

pub returns-in-Nibble : goal.returns-in-Nibble
unfolding carry_direct
returns-in-Nibble c = rw (c.in-Nibble.is, c.in_mode-progress.ensures) ran_no_entry

pub returns-in-Idle : goal.returns-in-Idle
unfolding carry_direct
returns-in-Idle c = rw c.in-Idle.is ran_no_entry
