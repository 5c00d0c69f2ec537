-- The law of `LayoutSentence`.
use Rattle.aries.proofs.LayoutSentence.{layout_sentence}
use Rattle.aries.proofs.theorems.layout_sentence.Goals as goal

pub returns : goal.returns
returns c = layout_sentence
