-- The law of `Tools`.
use Rattle.aries.proofs.Tools.{tally_adds_up}
use Rattle.aries.proofs.theorems.tally_adds_up.Goals as goal

pub returns : goal.returns
returns c = tally_adds_up
