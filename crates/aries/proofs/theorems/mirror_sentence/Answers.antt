-- The law of `MirrorRuns`.
use Rattle.aries.proofs.MirrorRuns.{mirror_sentence}
use Rattle.aries.proofs.theorems.mirror_sentence.Goals as goal

pub returns : goal.returns
returns c = mirror_sentence
