-- The number and the line are words.
use Rattle.std.proofs.Common.{arith}
use Rattle.std.proofs.lemmas.Grind.{common_steps}
use Rattle.printing.proofs.Decimals.{decimal_word}
use Rattle.printing.proofs.line.render_refusal.Goals as goal

pub put_decimal-place-requires : goal.put_decimal-place-requires
put_decimal-place-requires c = grind (arith, common_steps, decimal_word)

pub put_text-word-requires : goal.put_text-word-requires
put_text-word-requires c = grind (arith, common_steps, decimal_word)

pub put_decimal-first-requires : goal.put_decimal-first-requires
put_decimal-first-requires c = grind (arith, common_steps, decimal_word)

pub put_text-requires : goal.put_text-requires
put_text-requires c = grind (arith, common_steps, decimal_word)
