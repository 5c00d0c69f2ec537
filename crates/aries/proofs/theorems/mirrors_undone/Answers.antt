-- The law of `MirrorRuns`.
use Rattle.aries.proofs.MirrorRuns.{mirrors_undone}
use Rattle.aries.proofs.theorems.mirrors_undone.Goals as goal

pub returns : goal.returns
returns c = mirrors_undone
