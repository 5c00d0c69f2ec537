use Rattle.std.proofs.Common.{◌-◌, arith, take, drop, length}
use Rattle.std.proofs.lemmas.List.{length-take}
use Rattle.text.proofs.Lines.{line-short, line-past}
use Rattle.text.proofs.line_end.Goals as goal

pub returns-then-text-from : goal.returns-then-text-from
returns-then-text-from c = omega (arith, line-past c.args.text.now c.args.from c.if-text-from.true)

pub overflow_add-result : goal.overflow_add-result
overflow_add-result c =
    let t = c.args.text.now in
    let rest = take (length t - c.args.from) (drop c.args.from t) in
    omega (arith, c.line_length.ensures, line-short rest, length-take (length t - c.args.from) (drop c.args.from t), c.if-text-from.false)
