-- The tool's number has two digits.
use Rattle.std.proofs.Common.{arith}
use Rattle.std.proofs.lemmas.Grind.{common_steps}
use Rattle.printing.proofs.Decimals.{decimal_tool}
use Rattle.printing.specs.Listing.{tool_line}
use Rattle.printing.proofs.Buffers.{in_front}
use Rattle.printing.proofs.tool.put_tool.Goals as goal

pub put_decimal-requires : goal.put_decimal-requires
put_decimal-requires c = grind (arith, common_steps, decimal_tool)

pub returns-clause-bound : goal.returns-clause-bound
returns-clause-bound c = grind (arith, common_steps, decimal_tool)

pub returns-clause-put : goal.returns-clause-put
unfolding tool_line
returns-clause-put c =
    in_front (in_front (in_front (in_front c.put_byte-feed.ensures c.put_figure-last.ensures.put) c.put_figure-first.ensures.put) c.put_figure-hits.ensures.put) c.put_decimal.ensures
