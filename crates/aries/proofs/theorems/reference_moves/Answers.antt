-- The law of `ReferenceMoves`.
use Rattle.aries.proofs.ReferenceMoves.{reference_moves}
use Rattle.aries.proofs.theorems.reference_moves.Goals as goal

pub returns : goal.returns
returns c = reference_moves
