-- The law of `Refusals`.
use Rattle.aries.proofs.Refusals.{refusals_named}
use Rattle.aries.proofs.theorems.refusals_named.Goals as goal

pub returns : goal.returns
returns c = refusals_named
