-- The law of `Settings`.
use Rattle.aries.proofs.Settings.{pointed_alike}
use Rattle.aries.proofs.theorems.pointed_alike.Goals as goal

pub returns : goal.returns
returns c = pointed_alike
