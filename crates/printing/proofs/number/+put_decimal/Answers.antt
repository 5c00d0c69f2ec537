-- The last digit, and those of the tenth part in front of it.
use Rattle.std.proofs.Common.{arith}
use Rattle.printing.proofs.Buffers.{in_front, front}
use Rattle.printing.proofs.Decimals.{decimal_last, decimal_more, decimal_some, length_more}
use Rattle.printing.proofs.number.+put_decimal.Goals as goal

pub put_byte-last-requires : goal.put_byte-last-requires
put_byte-last-requires t c = omega (arith, decimal_some c.args.n (omega arith), c.requires)

pub returns-then-n-lt10 : goal.returns-then-n-lt10
returns-then-n-lt10 t c = rw (decimal_last c.args.n (omega arith)) c.put_byte-last.ensures

pub put_decimal-requires : goal.put_decimal-requires
put_decimal-requires t c = (omega arith, omega (arith, front c.put_byte-last.ensures, c.put_byte-last.ensures.placed, length_more c.args.n (omega arith) (omega arith)))

pub returns : goal.returns
returns t c = rw (decimal_more c.args.n (omega arith)) (in_front c.put_byte-last.ensures c.put_decimal.ensures)
