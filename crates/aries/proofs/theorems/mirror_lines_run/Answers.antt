-- The law of `MirrorBlocks`.
use Rattle.aries.proofs.MirrorBlocks.{mirror_lines_run}
use Rattle.aries.proofs.theorems.mirror_lines_run.Goals as goal

pub returns : goal.returns
returns c = mirror_lines_run
