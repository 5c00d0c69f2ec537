-- The law of `Plates`.
use Rattle.aries.proofs.Plates.{millimetres_hold}
use Rattle.aries.proofs.theorems.millimetres_hold.Goals as goal

pub returns : goal.returns
returns c = millimetres_hold
