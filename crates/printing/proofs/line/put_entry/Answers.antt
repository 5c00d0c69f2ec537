-- The index is a word.
use Rattle.std.proofs.Common.{arith}
use Rattle.std.proofs.lemmas.Grind.{common_steps}
use Rattle.printing.proofs.Decimals.{decimal_word}
use Rattle.printing.proofs.line.put_entry.Goals as goal

pub put_decimal-requires : goal.put_decimal-requires
put_decimal-requires c = grind (arith, common_steps, decimal_word)

pub returns-clause-bound : goal.returns-clause-bound
returns-clause-bound c = grind (arith, common_steps, decimal_word)
