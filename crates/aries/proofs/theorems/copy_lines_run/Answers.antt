-- By the laws of the definitions.
use Rattle.aries.proofs.CopyBlocks.{copy-lines_run}
use Rattle.aries.proofs.theorems.copy_lines_run.Goals as goal

pub returns : goal.returns
returns c = copy-lines_run
