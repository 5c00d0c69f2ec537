use Rattle.std.proofs.Common.{◌≡◌, ◌∙◌, ap, arith, drop, length-drop}
use Rattle.text.specs.Lines.{blanks}
use Rattle.text.proofs.Lines.{blanks-short}
use Rattle.text.proofs.next_block.Goals as goal

pub overflow_add-result : goal.overflow_add-result
overflow_add-result c =
    let rest = drop c.args.from c.args.text.now in
    let e : c.count_blanks.result ≡ blanks rest = c.count_blanks.ensures ∙ ap blanks c.rest_of.ensures in
    omega (arith, blanks-short rest, length-drop c.args.from c.args.text.now)
