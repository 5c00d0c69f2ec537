-- The law of `MirrorRuns`.
use Rattle.aries.proofs.MirrorRuns.{mirrors_compose}
use Rattle.aries.proofs.theorems.mirrors_compose.Goals as goal

pub returns : goal.returns
returns c = mirrors_compose
