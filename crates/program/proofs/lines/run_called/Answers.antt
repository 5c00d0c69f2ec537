-- By what is called.
use mathlib.Core.Path.{subst}
use Rattle.turns.specs.declared.turn.Called.TheVariants.{Macro, Part}
use Rattle.turns.specs.Turns.{CalledNear}
use Rattle.program.proofs.Called.{carries_called}
use Rattle.program.proofs.lines.run_called.Goals as goal

pub returns-in-Macro : goal.returns-in-Macro
returns-in-Macro c =
    let a = c.args in
    let b = c.in-Macro in
    rw b.is
    (carries_called a.text.now a.end a.program.now (Macro b.call) (subst CalledNear b.is c.requires.called_near) c.requires.near c.run_body.result c.run_body.new.progress
    (rw c.frame-frame.ensures at c.run_body.ensures))

pub returns-in-Part : goal.returns-in-Part
returns-in-Part c =
    let a = c.args in
    let b = c.in-Part in
    rw b.is (carries_called a.text.now a.end a.program.now (Part b.copies) tt c.requires.near c.copy_part.result c.copy_part.new.progress c.copy_part.ensures)
