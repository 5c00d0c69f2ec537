-- The law of `Settings`.
use Rattle.aries.proofs.Settings.{base_kept}
use Rattle.aries.proofs.theorems.base_kept.Goals as goal

pub returns : goal.returns
returns c = base_kept
