-- The law of `Settings`.
use Rattle.aries.proofs.Settings.{setting_holds}
use Rattle.aries.proofs.theorems.setting_holds.Goals as goal

pub returns : goal.returns
returns c = setting_holds
