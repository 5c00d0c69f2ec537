-- Laws of fractions: two of them, each times a number, as wholes and a rest, and that a rest does not matter once the wholes are
-- rounded by 10^9.
use mathlib.Core.Path.{◌≡◌, refl, sym, ap, ap₂, ◌∙◌}
use mathlib.Core.Bool.{Bool, true, false, cond, ◌&&◌}
use Prim.Native.Nat.{ℕ, zero, suc, ◌+◌, ◌-◌, ◌*◌, ◌/◌, ◌≤◌, ◌<◌}
use native.Mathlib.Nat.{mul-add-div, div-eq_of_lt, div-le_of_le-mul, le_trans, le_of_lt, add-zero, mul-zero, mul-suc}
use native.Mathlib.Omega.{arith}
use lib.Dec.{ltb, lit≤, leb-suc-zero}
use lib.IntN.{ℤ, pos, negsuc, neg_ℤ, nat_abs, ◌+ℤ◌, ◌-ℤ◌, ◌*ℤ◌, +ℤ_assoc, +ℤ_idl, +ℤ_one, -ℤ_one, neg_ℤ-+ℤ, neg_ℤ-neg_ℤ}
use lib.Signed.{lt_z, quot_z, rem_z}
use borrow.Author.Tests.{lt-ltb, le-ltb}
use Rattle.signed.proofs.Integers.{abs_neg, abs_add, abs_mul, add-mul, times_mul, mul_add, mul_neg, add_pairs, quotient_rest, quotient_size}
use Rattle.sine.specs.Series.{nearest, one}
use Rattle.sine.specs.Sine.{rounded}
use Rattle.sine.proofs.Rounding.{nearest-parts}
use Rattle.shears.specs.declared.fractions.Fraction.{Fraction}
use Rattle.shears.specs.Fractions.{value_of, Reduced, toward_zero}

-- ---- Wholes and a rest

-- a fraction times a number
value-times : (x : Fraction) (p : ℤ) → value_of x *ℤ p ≡ pos x.denominator *ℤ (x.whole *ℤ p) +ℤ x.rest *ℤ p
value-times x p =
    add-mul (pos x.denominator *ℤ x.whole) x.rest p
    ∙ ap (λ (z : ℤ). z +ℤ x.rest *ℤ p) (times_mul x.denominator x.whole p)

-- two of them over one denominator, whose rests are divided once more
module _ (a b : Fraction) (p q : ℤ) (same : b.denominator ≡ a.denominator) where
  abbrev pub rests : ℤ
  rests = a.rest *ℤ p +ℤ b.rest *ℤ q

  abbrev pub wholes : ℤ
  wholes = a.whole *ℤ p +ℤ b.whole *ℤ q

  abbrev m : ℕ
  m = a.denominator

  b-times : value_of b *ℤ q ≡ pos m *ℤ (b.whole *ℤ q) +ℤ b.rest *ℤ q
  b-times = value-times b q ∙ ap (λ (n : ℕ). pos n *ℤ (b.whole *ℤ q) +ℤ b.rest *ℤ q) same

  pub sum_split : value_of a *ℤ p +ℤ value_of b *ℤ q ≡ pos m *ℤ (wholes +ℤ quot_z rests (pos m)) +ℤ rem_z rests (pos m)
  sum_split =
      ap₂ ◌+ℤ◌ (value-times a p) b-times
      ∙ add_pairs (pos m *ℤ (a.whole *ℤ p)) (a.rest *ℤ p) (pos m *ℤ (b.whole *ℤ q)) (b.rest *ℤ q)
      ∙ ap₂ ◌+ℤ◌ (sym (mul_add (a.whole *ℤ p) (b.whole *ℤ q) (pos m))) (sym (quotient_rest rests m))
      ∙ sym (+ℤ_assoc (pos m *ℤ wholes) (pos m *ℤ quot_z rests (pos m)) (rem_z rests (pos m)))
      ∙ ap (λ (z : ℤ). z +ℤ rem_z rests (pos m)) (sym (mul_add wholes (quot_z rests (pos m)) (pos m)))

  -- their sizes, where the numbers are sines
  module _ (fa : Reduced a) (fb : Reduced b) (hp : nat_abs p ≤ one) (hq : nat_abs q ≤ one) where
    pub wholes_size : nat_abs wholes ≤ 8589934592000000000
    wholes_size =
        abs_add (a.whole *ℤ p) (b.whole *ℤ q) 4294967296000000000 4294967296000000000
        (abs_mul a.whole p 4294967296 one fa.small hp) (abs_mul b.whole q 4294967296 one fb.small hq)

    rests_size : nat_abs rests ≤ m * 2000000000
    rests_size =
        le_trans
        (abs_add (a.rest *ℤ p) (b.rest *ℤ q) (m * one) (m * one)
        (abs_mul a.rest p m one (le_of_lt fa.less) hp) (abs_mul b.rest q m one (le_of_lt (rw same at fb.less)) hq))
        (omega arith)

    pub sum_size : nat_abs (wholes +ℤ quot_z rests (pos m)) ≤ 8589934594000000000
    sum_size =
        abs_add wholes (quot_z rests (pos m)) 8589934592000000000 2000000000 wholes_size
        (rw (quotient_size rests m) (le_trans (div-le_of_le-mul m rests_size) (lit≤ tt)))

-- ---- Toward zero

-- a rest with the sign of the wholes
toward-same : (a b : ℕ) → toward_zero (pos a) (pos b) ≡ pos a
toward-same a b = go (ltb 0 a)
  where
    go : (t : Bool) → cond (t && ltb b 0) (pos a -ℤ pos 1) (cond (ltb a 0 && ltb 0 b) (pos a +ℤ pos 1) (pos a)) ≡ pos a
    go true = simp leb-suc-zero
    go false = simp leb-suc-zero

-- and with the other
toward-less : (a b : ℕ) → toward_zero (pos (suc a)) (negsuc b) ≡ pos a
toward-less a b = simp (lt-ltb 0 (suc a) (omega arith)) (-ℤ_one (pos (suc a)))

-- one more than a number below zero
one_more : (a : ℕ) → negsuc a +ℤ pos 1 ≡ neg_ℤ (pos a)
one_more zero = refl
one_more (suc a) = +ℤ_one (negsuc (suc a))

-- both signs turned round
toward_odd : (a : ℕ) (r : ℤ) → toward_zero (negsuc a) (neg_ℤ r) ≡ neg_ℤ (toward_zero (pos (suc a)) r)
toward_odd a (pos zero) = ap neg_ℤ (sym (toward-same (suc a) zero))
toward_odd a (pos (suc b)) = ap neg_ℤ (sym (toward-same (suc a) (suc b)))
toward_odd a (negsuc b) = simp (lt-ltb 0 (suc b) (omega arith)) (one_more a ∙ ap neg_ℤ (sym (toward-less a b)))

-- hardly larger than the wholes
pub toward-size : (w r : ℤ) (n : ℕ) → nat_abs w ≤ n → nat_abs (toward_zero w r) ≤ n + 1
toward-size w r n h = go (lt_z (pos 0) w && lt_z r (pos 0)) (lt_z w (pos 0) && lt_z (pos 0) r)
  where
    go : (t u : Bool) → nat_abs (cond t (w -ℤ pos 1) (cond u (w +ℤ pos 1) w)) ≤ n + 1
    go true u = abs_add w (negsuc 0) n 1 h (lit≤ tt)
    go false true = abs_add w (pos 1) n 1 h (lit≤ tt)
    go false false = omega arith

-- ---- Rounding

-- nothing is rounded to nothing
nearest_zero : (d : ℕ) → nearest 0 d ≡ 0
nearest_zero zero = refl
nearest_zero (suc d) = div-eq_of_lt (omega arith)

-- the other sign
rounded_odd : (z : ℤ) (d : ℕ) → rounded (neg_ℤ z) d ≡ neg_ℤ (rounded z d)
unfolding rounded
rounded_odd (pos zero) d = ap pos (nearest_zero d) ∙ ap (λ (n : ℕ). neg_ℤ (pos n)) (sym (nearest_zero d))
rounded_odd (pos (suc n)) d = simp leb-suc-zero
rounded_odd (negsuc n) d = simp (leb-suc-zero, neg_ℤ-neg_ℤ)

-- what is not negative by parts, and what is
module _ (m : ℕ) (some : 0 < m) where
  rounded_above : (a q : ℕ) → a / m ≡ q → rounded (pos a) (m * one) ≡ rounded (pos q) one
  unfolding rounded
  rounded_above a q e = simp (leb-suc-zero) (ap pos (nearest-parts a m some ∙ ap (λ (n : ℕ). nearest n one) e))

  rounded_below : (a q : ℕ) → suc a / m ≡ q → rounded (negsuc a) (m * one) ≡ rounded (neg_ℤ (pos q)) one
  unfolding rounded
  rounded_below a zero e = ap (λ (n : ℕ). neg_ℤ (pos n)) (nearest-parts (suc a) m some ∙ ap (λ (n : ℕ). nearest n one) e)
  rounded_below a (suc q) e = ap (λ (n : ℕ). neg_ℤ (pos n)) (nearest-parts (suc a) m some ∙ ap (λ (n : ℕ). nearest n one) e)

  -- a whole is not reached
  short : (a r : ℕ) → r < m → (m * a + r) / m ≡ a
  short a r h = mul-add-div some a r ∙ ap (λ (n : ℕ). a + n) (div-eq_of_lt h) ∙ add-zero a

  -- wholes that are not negative, and a rest
  parts_above : (a : ℕ) (rest : ℤ) → nat_abs rest < m → rounded (pos m *ℤ pos a +ℤ rest) (m * one) ≡ rounded (toward_zero (pos a) rest) one
  parts_above a (pos b) h = rounded_above (m * a + b) a (short a b h) ∙ ap (λ (z : ℤ). rounded z one) (sym (toward-same a b))
  parts_above zero (negsuc b) h =
      ap (λ (z : ℤ). rounded z (m * one)) (ap (λ (n : ℕ). pos n +ℤ negsuc b) (mul-zero m) ∙ +ℤ_idl (negsuc b)) ∙ rounded_below b 0 (div-eq_of_lt h)
  parts_above (suc a) (negsuc b) h =
      let some_left : suc b ≤ m * suc a = omega (arith, mul-suc m a) in
      let left : m * suc a - suc b ≡ m * a + (m - suc b) = omega (arith, mul-suc m a) in
      simp (le-ltb (m * suc a) (suc b) some_left)
      (ap (λ (n : ℕ). rounded (pos n) (m * one)) left
      ∙ rounded_above (m * a + (m - suc b)) a (short a (m - suc b) (omega arith))
      ∙ ap (λ (z : ℤ). rounded z one) (sym (toward-less a b)))

  -- wholes and a rest, whatever their signs
  pub rounded-parts : (whole rest : ℤ) → nat_abs rest < m → rounded (pos m *ℤ whole +ℤ rest) (m * one) ≡ rounded (toward_zero whole rest) one
  rounded-parts (pos a) rest h = parts_above a rest h
  rounded-parts (negsuc a) rest h =
      ap (λ (z : ℤ). rounded z (m * one)) turned_round
      ∙ rounded_odd (pos m *ℤ pos (suc a) +ℤ neg_ℤ rest) (m * one)
      ∙ ap neg_ℤ (parts_above (suc a) (neg_ℤ rest) (rw (abs_neg rest) h))
      ∙ sym (rounded_odd (toward_zero (pos (suc a)) (neg_ℤ rest)) one)
      ∙ ap (λ (z : ℤ). rounded z one) (sym (toward_odd a (neg_ℤ rest)) ∙ ap (toward_zero (negsuc a)) (neg_ℤ-neg_ℤ rest))
    where
      turned_round : pos m *ℤ negsuc a +ℤ rest ≡ neg_ℤ (pos m *ℤ pos (suc a) +ℤ neg_ℤ rest)
      turned_round =
          ap₂ ◌+ℤ◌ (mul_neg (pos m) (pos (suc a))) (sym (neg_ℤ-neg_ℤ rest)) ∙ sym (neg_ℤ-+ℤ (pos m *ℤ pos (suc a)) (neg_ℤ rest))
