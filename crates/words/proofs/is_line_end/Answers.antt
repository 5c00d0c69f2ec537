-- By the byte at the place, and past the end the line is empty.
use Rattle.std.proofs.Common.{rules, tests}
use Rattle.words.proofs.FirstLine.{line_end_told}
use Rattle.words.proofs.is_line_end.Goals as goal

pub returns : goal.returns
returns c = rw (line_end_told c.args.text.now c.args.at c.get.result c.get.ensures.lookup) (search (rules, tests))
