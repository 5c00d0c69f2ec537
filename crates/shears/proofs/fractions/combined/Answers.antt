-- Each product is at most 2^32 × 10^9, so that their sum fits.
use native.Mathlib.Omega.{arith}
use Prim.Native.Nat.{◌≤◌}
use lib.IntN.{nat_abs, ◌*ℤ◌}
use Rattle.std.proofs.lemmas.Int.{ints}
use mir.Facts.{to_z-of_z}
use Rattle.signed.proofs.Integers.{abs_mul, widened}
use Rattle.sine.specs.Series.{one}
use Rattle.shears.proofs.fractions.combined.Goals.{Start}
use Rattle.shears.proofs.fractions.combined.Goals as goal

module _ (c : Start) where
  first : nat_abs (c.args.a *ℤ c.args.p) ≤ 4294967296000000000
  first = abs_mul c.args.a c.args.p 4294967296 one c.requires.a_bound.0 c.requires.p_bound.0

  second : nat_abs (c.args.b *ℤ c.args.q) ≤ 4294967296000000000
  second = abs_mul c.args.b c.args.q 4294967296 one c.requires.a_bound.1 c.requires.p_bound.1

pub overflow_add-result : goal.overflow_add-result
overflow_add-result c =
    let s = (goal.at.overflow_add-result c).Start in
    let one-way = first s in
    let other-way = second s in
    simp (c.from.ensures, c.from-2.ensures, widened c.args.p c.ranges.p, widened c.args.q c.ranges.q, to_z-of_z c.ranges.a, to_z-of_z c.ranges.b) (omega (arith, ints))

pub returns : goal.returns
returns c =
    let s = (goal.at.returns c).Start in
    let one-way = first s in
    let other-way = second s in
    simp (c.from.ensures, c.from-2.ensures, widened c.args.p c.ranges.p, widened c.args.q c.ranges.q, to_z-of_z c.ranges.a, to_z-of_z c.ranges.b) (omega (arith, ints))
