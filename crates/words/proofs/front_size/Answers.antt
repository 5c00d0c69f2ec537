-- By the test of the sign.
use mathlib.Core.Path.{sym, ◌∙◌}
use Rattle.words.proofs.front_size.Goals as goal

pub returns-then-is_sign : goal.returns-then-is_sign
returns-then-is_sign c = simp (sym c.is_sign.ensures ∙ c.if-is_sign.true)

pub returns-else-is_sign : goal.returns-else-is_sign
returns-else-is_sign c = simp (sym c.is_sign.ensures ∙ c.if-is_sign.false)
