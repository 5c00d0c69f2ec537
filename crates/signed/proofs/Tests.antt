-- Laws of the tests on integers: what a test says, and tests put together.
-- Assumes nothing.
use mathlib.Core.Path.{◌≡◌, refl, sym, ap, ◌∙◌, subst}
use mathlib.Core.Bool.{Bool, true, false, ◌&&◌, and-true}
use Prim.Native.Nat.{ℕ, zero, suc}
use native.Mathlib.Omega.{arith}
use lib.Dec.{T, leb, leb-zero, leb-suc-zero, leb-suc-suc}
use lib.IntN.{ℤ, pos, negsuc, neg_ℤ, nat_abs}
use lib.Signed.{le_z, lt_z, non_neg}
use borrow.Author.Tests.{eqb-true, eq-eqb, ltb-true}
use Rattle.signed.specs.Signed.{eq_z}

-- ---- both

-- the first of two tests that hold
pub and_left : (a b : Bool) → (a && b) ≡ true → a ≡ true
and_left true b e = refl
and_left false b e = e

-- the second
pub and_right : (a b : Bool) → (a && b) ≡ true → b ≡ true
and_right true b e = e
and_right false b e = cc

-- two tests that hold
pub and_intro : (a b : Bool) → a ≡ true → b ≡ true → (a && b) ≡ true
and_intro a b e f = cc

-- ---- equality

-- numbers that pass are the same
pub eq_z_true : (a b : ℤ) → eq_z a b ≡ true → a ≡ b
eq_z_true (pos a) (pos b) e = ap pos (eqb-true a b e)
eq_z_true (pos a) (negsuc b) e = cc
eq_z_true (negsuc a) (pos b) e = cc
eq_z_true (negsuc a) (negsuc b) e = ap negsuc (eqb-true a b e)

-- a number passes with itself
pub eq_z_refl : (a : ℤ) → eq_z a a ≡ true
eq_z_refl (pos a) = eq-eqb a a refl
eq_z_refl (negsuc a) = eq-eqb a a refl

-- ---- signs

-- the opposite of a number below zero is not negative
pub negative_neg_ℤ : (a : ℤ) → lt_z a (pos 0) ≡ true → T (non_neg (neg_ℤ a))
negative_neg_ℤ (pos a) e = absurd (omega (arith, ltb-true a 0 e))
negative_neg_ℤ (negsuc a) e = tt

-- nor is a number that is not below zero
pub not_negative : (a : ℤ) → lt_z a (pos 0) ≡ false → T (non_neg a)
not_negative (pos a) e = tt
not_negative (negsuc a) e = subst T e tt

-- ---- sizes

-- a size within n, by the two ends
pub size-ends : (a : ℤ) (n : ℕ) → (le_z (neg_ℤ (pos n)) a && le_z a (pos n)) ≡ leb (nat_abs a) n
size-ends (pos a) zero = simp (leb-zero a)
size-ends (pos a) (suc n) = refl
size-ends (negsuc a) zero = sym (leb-suc-zero a)
size-ends (negsuc a) (suc n) = and-true (leb a n) ∙ sym (leb-suc-suc a n)
