use Rattle.program.proofs.lines.run_turn.Goals as goal

pub returns-in-Storing : goal.returns-in-Storing
returns-in-Storing c = c.pass_over.ensures _
