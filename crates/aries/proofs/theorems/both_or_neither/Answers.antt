-- The law of `BothOrNeither`.
use Rattle.aries.proofs.BothOrNeither.{both_or_neither}
use Rattle.aries.proofs.theorems.both_or_neither.Goals as goal

pub returns : goal.returns
returns c = both_or_neither
