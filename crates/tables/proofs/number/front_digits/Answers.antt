-- The digits lie within the line, and are no more than wanted.
use Rattle.std.proofs.Common.{arith}
use Rattle.words.specs.Digits.{meant}
use Rattle.words.proofs.Numerals.{Bounded, below_power, held_bounded}
use Rattle.tables.proofs.number.front_digits.Goals.{After-read_digits-digits}
use Rattle.tables.proofs.number.front_digits.Goals as goal

bounds : (c : After-read_digits-digits) → Bounded c.args.most 0 c.args.line.now (meant c.read_digits-digits.result)
bounds c = held_bounded c.args.most c.args.line.now c.read_digits-digits.result c.read_digits-digits.ensures

pub slice_bounds-result-count : goal.slice_bounds-result-count
slice_bounds-result-count c = omega (arith, (bounds c).inside)

pub slice_bounds-result-start : goal.slice_bounds-result-start
slice_bounds-result-start c = omega (arith, (bounds c).inside)

pub returns-clause-small : goal.returns-clause-small
returns-clause-small c =
    let few = bounds (goal.at.returns-clause-small c).After-read_digits-digits in
    below_power c.read_digits-digits.result.value c.read_digits-digits.result.count c.args.most few.small (omega (arith, few.few))
