-- By the laws of the definitions.
use Rattle.aries.proofs.CopyBlocks.{origin_moves}
use Rattle.aries.proofs.theorems.origin_moves.Goals as goal

pub returns : goal.returns
returns c = origin_moves
