-- By the laws of the definitions.
use Rattle.aries.proofs.CopyBlocks.{reached_ordinary}
use Rattle.aries.proofs.theorems.reached_ordinary.Goals as goal

pub returns : goal.returns
returns c = reached_ordinary
