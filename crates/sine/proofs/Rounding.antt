-- Laws of rounding to the nearest, by 10^9 and by parts of it.
-- Assumes nothing.
use mathlib.Core.Path.{◌≡◌, sym, ap, ◌∙◌}
use mathlib.Core.Bool.{true, false}
use Prim.Native.Nat.{ℕ, ◌+◌, ◌*◌, ◌/◌, ◌≤◌, ◌<◌}
use native.Mathlib.Nat.{mul-div-mul_left, div-div-eq-div-mul, add-mul-div_left}
use native.Mathlib.Omega.{arith}
use lib.IntN.{ℤ, pos, neg_ℤ, nat_abs, ◌*ℤ◌}
use lib.Signed.{lt_z}
use mir.Syntax.{w32}
use mir.Val.{SFits}
use Rattle.signed.proofs.Integers.{abs_with_sign, abs_mul, abs_product}
use Rattle.sine.specs.Series.{nearest, one}
use Rattle.sine.specs.Sine.{rounded, offset}

-- parts of a unit do not matter: one is even, so that no half lies between two whole units
pub nearest-parts : (a m : ℕ) → 0 < m → nearest a (m * one) ≡ nearest (a / m) one
nearest-parts a m some =
    let halved : 2 * a + m * one ≡ 2 * (a + m * 500000000) = omega arith in
    let whole : (a / m + 500000000) / one ≡ nearest (a / m) one = omega arith in
    ap (λ (n : ℕ). n / (2 * (m * one))) halved
    ∙ mul-div-mul_left (a + m * 500000000) (m * one) (omega arith)
    ∙ sym (div-div-eq-div-mul (a + m * 500000000) m one)
    ∙ ap (λ (n : ℕ). n / one) (add-mul-div_left a 500000000 some)
    ∙ whole

-- below zero the opposite of the rounded size
pub rounded_below : (z : ℤ) → lt_z z (pos 0) ≡ true → rounded z one ≡ neg_ℤ (pos (nearest (nat_abs z) one))
unfolding rounded
rounded_below z e = simp e

-- from zero up the rounded size
pub rounded_above : (z : ℤ) → lt_z z (pos 0) ≡ false → rounded z one ≡ pos (nearest (nat_abs z) one)
unfolding rounded
rounded_above z e = simp e

-- a rounded quotient is no larger than the bound's
pub rounded-small : (z : ℤ) (n : ℕ) → nat_abs z ≤ n → nat_abs (rounded z one) ≤ nearest n one
unfolding rounded
rounded-small z n h = rw (abs_with_sign (lt_z z (pos 0)) (nearest (nat_abs z) one)) (omega arith)

-- an offset within the bound of distance times sine
pub offset_small : (distance s : ℤ) (n : ℕ) → nat_abs (distance *ℤ s) ≤ n → nat_abs (offset distance s) ≤ nearest n one
unfolding offset
offset_small distance s n h = rounded-small (distance *ℤ s) n h

-- a distance turned by a sine is no longer than it was
pub offset-within : (distance s : ℤ) (n : ℕ) → nat_abs distance ≤ n → nat_abs s ≤ one → nat_abs (offset distance s) ≤ n
offset-within distance s n h k =
    let p : nat_abs (distance *ℤ s) ≤ n * one = abs_mul distance s n one h k in
    omega (arith, offset_small distance s (n * one) p)

-- so is an offset of two words
pub offset_word : (distance s : ℤ) → SFits w32 distance → SFits w32 s → nat_abs (offset distance s) ≤ 4611686018
offset_word distance s f g = omega (arith, offset_small distance s 4611686018427387904 (abs_product distance s f g))
