-- The law of `Plates`.
use Rattle.aries.proofs.Plates.{plates_hold}
use Rattle.aries.proofs.theorems.plates_hold.Goals as goal

pub returns : goal.returns
returns c = plates_hold
