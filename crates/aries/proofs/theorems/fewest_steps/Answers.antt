-- The law of `Shear`.
use Rattle.aries.proofs.Shear.{fewest_steps}
use Rattle.aries.proofs.theorems.fewest_steps.Goals as goal

pub returns : goal.returns
returns c = fewest_steps
