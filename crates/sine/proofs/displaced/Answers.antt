-- The offset of two words is small, so that the sum fits.
use mathlib.Core.Path.{◌≡◌}
use native.Mathlib.Omega.{arith}
use mir.Facts.{to_z-of_z}
use Rattle.std.proofs.lemmas.Int.{ints}
use Rattle.signed.proofs.Integers.{widened, product_fits}
use Rattle.sine.specs.Sine.{offset}
use Rattle.sine.proofs.Rounding.{offset_word}
use Rattle.sine.proofs.displaced.Goals.{After-rounded}
use Rattle.sine.proofs.displaced.Goals as goal

offset-is : (c : After-rounded) → c.rounded.result ≡ offset c.args.distance c.args.sine
unfolding offset
offset-is c =
    let a = c.args in
    let r = c.ranges in
    simp (
      c.from-2.ensures,
      c.from-3.ensures,
      widened a.distance r.distance,
      widened a.sine r.sine,
      to_z-of_z (product_fits a.distance a.sine r.distance r.sine),
    ) at c.rounded.ensures

pub overflow_add-result : goal.overflow_add-result
overflow_add-result c =
    let small = offset_word c.args.distance c.args.sine c.ranges.distance c.ranges.sine in
    omega (arith, ints, offset-is c)

pub returns : goal.returns
returns c =
    let small = offset_word c.args.distance c.args.sine c.ranges.distance c.ranges.sine in
    record { value = omega (arith, ints, offset-is c); result_bound = omega (arith, ints, offset-is c) }
