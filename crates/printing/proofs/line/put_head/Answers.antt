-- The count is a word.
use Rattle.std.proofs.Common.{arith}
use Rattle.std.proofs.lemmas.Grind.{common_steps}
use Rattle.printing.proofs.Decimals.{decimal_word}
use Rattle.printing.proofs.line.put_head.Goals as goal

pub put_decimal-number-requires : goal.put_decimal-number-requires
put_decimal-number-requires c = grind (arith, common_steps, decimal_word)

pub put_text-requires : goal.put_text-requires
put_text-requires c = grind (arith, common_steps, decimal_word)
