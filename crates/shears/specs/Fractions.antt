-- Numbers over a denominator, as wholes and a rest.
use Rattle.std.specs.Prelude.{cond, ◌&&◌, ℕ, ◌≤◌, ◌<◌, ℤ, pos, nat_abs, ◌+ℤ◌, ◌-ℤ◌, ◌*ℤ◌}
use Rattle.std.specs.Int.Signed.{lt_z, quot_z, rem_z}
use Rattle.shears.specs.declared.fractions.Fraction.{Fraction}

-- a numerator over a denominator, divided toward zero
abbrev pub split : ℕ → ℤ → Fraction
split denominator z =
    record { whole = quot_z z (pos denominator); rest = rem_z z (pos denominator); denominator = denominator }

-- the numerator again
abbrev pub value_of : Fraction → ℤ
value_of x = pos x.denominator *ℤ x.whole +ℤ x.rest

-- the rest is less than a whole, and the wholes are of 32 bits and a sign at most
pub record Reduced (x : Fraction) : Type 0 where
  pub small : nat_abs x.whole ≤ 4294967296
  pub less : nat_abs x.rest < x.denominator
  pub narrow : x.denominator ≤ 4294967296

-- wholes without a rest that may have another sign: one less in size where it has
abbrev pub toward_zero : ℤ → ℤ → ℤ
toward_zero whole rest =
    cond (lt_z (pos 0) whole && lt_z rest (pos 0)) (whole -ℤ pos 1)
    (cond (lt_z whole (pos 0) && lt_z (pos 0) rest) (whole +ℤ pos 1) whole)
