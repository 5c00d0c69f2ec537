-- A figure is a word.
use Rattle.std.proofs.Common.{arith}
use Rattle.std.proofs.lemmas.Grind.{common_steps}
use Rattle.printing.proofs.Decimals.{decimal_word}
use Rattle.printing.proofs.tool.put_figure.Goals as goal

pub returns-clause-bound : goal.returns-clause-bound
returns-clause-bound c = grind (arith, common_steps, decimal_word)
