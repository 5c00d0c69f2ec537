-- The law of `CopyPairs`.
use Rattle.aries.proofs.CopyPairs.{pair_alike}
use Rattle.aries.proofs.theorems.pair_alike.Goals as goal

pub returns : goal.returns
returns c = pair_alike
