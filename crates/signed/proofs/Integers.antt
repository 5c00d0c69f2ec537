-- Laws of the integers: sums and products rearranged, sizes bounded, and the machine words that hold them.
-- Assumes nothing.
use mathlib.Core.Path.{◌≡◌, refl, sym, ap, ap₂, ◌∙◌}
use mathlib.Core.Bool.{Bool, true, false}
use Prim.Native.Nat.{ℕ, zero, suc, ◌+◌, ◌-◌, ◌*◌, ◌/◌, ◌^◌, ◌≤◌, ◌<◌}
use native.Mathlib.Nat.{le_trans, lt_of_le_of_lt, mul-le-mul, div-le_self}
use native.Mathlib.Omega.{arith}
use lib.Dec.{lit<}
use lib.IntN.{ℤ, pos, negsuc, neg_ℤ, suc_ℤ, pred_ℤ, nat_abs, ◌+ℤ◌, ◌-ℤ◌, ◌*ℤ◌, +ℤ_assoc, +ℤ_idr, +ℤ-suc_ℤ, +ℤ-pred_ℤ, zero-*ℤ, suc_ℤ-*ℤ, pred_ℤ-*ℤ, *ℤ_comm, neg_ℤ-neg_ℤ}
use lib.Signed.{mag, quot_z, rem_z, nat_abs-le}
use mir.Syntax.{Width, w32, w64}
use mir.Val.{SFits, hbits, to_z, of_z}
use mir.Facts.{to_z-of_z, sfits_widen}
use Rattle.std.proofs.lemmas.Int.{ints, quot-rem, rem_below, unsigned_abs-mul}
use Rattle.signed.specs.Signed.{with_sign}

-- ---- sums and products

-- equal naturals as integers are equal naturals
pub pos_injective : (m n : ℕ) → pos m ≡ pos n → m ≡ n
pos_injective m n e = omega (arith, ints)

-- minus a, as a difference
pub zero_minus : (a : ℤ) → pos 0 -ℤ a ≡ neg_ℤ a
zero_minus a = omega (arith, ints)

-- one step up and one step down in the second summand of a product's factor
add_mul_suc : (a b k : ℤ) → (a +ℤ b) *ℤ k ≡ a *ℤ k +ℤ b *ℤ k → (a +ℤ suc_ℤ b) *ℤ k ≡ a *ℤ k +ℤ suc_ℤ b *ℤ k
add_mul_suc a b k ih = simp (+ℤ-suc_ℤ, suc_ℤ-*ℤ, ih, +ℤ_assoc)

add_mul_pred : (a b k : ℤ) → (a +ℤ b) *ℤ k ≡ a *ℤ k +ℤ b *ℤ k → (a +ℤ pred_ℤ b) *ℤ k ≡ a *ℤ k +ℤ pred_ℤ b *ℤ k
add_mul_pred a b k ih = simp (+ℤ-pred_ℤ, pred_ℤ-*ℤ, ih, +ℤ_assoc)

-- the product of a sum
pub add-mul : (a b k : ℤ) → (a +ℤ b) *ℤ k ≡ a *ℤ k +ℤ b *ℤ k
add-mul a (pos zero) k = simp (+ℤ_idr, zero-*ℤ)
add-mul a (pos (suc n)) k = add_mul_suc a (pos n) k (add-mul a (pos n) k)
add-mul a (negsuc zero) k = add_mul_pred a (pos zero) k (simp (+ℤ_idr, zero-*ℤ))
add-mul a (negsuc (suc n)) k = add_mul_pred a (negsuc n) k (add-mul a (negsuc n) k)

-- a product by a whole number, of a product
pub times_mul : (m : ℕ) (a b : ℤ) → (pos m *ℤ a) *ℤ b ≡ pos m *ℤ (a *ℤ b)
times_mul zero a b = simp zero-*ℤ
times_mul (suc m) a b =
    ap (λ (z : ℤ). z *ℤ b) (suc_ℤ-*ℤ (pos m) a) ∙ add-mul (pos m *ℤ a) a b
    ∙ ap (λ (z : ℤ). z +ℤ a *ℤ b) (times_mul m a b) ∙ sym (suc_ℤ-*ℤ (pos m) (a *ℤ b))

-- and of a sum
pub mul_add : (a b k : ℤ) → k *ℤ (a +ℤ b) ≡ k *ℤ a +ℤ k *ℤ b
mul_add a b k = *ℤ_comm k (a +ℤ b) ∙ add-mul a b k ∙ ap₂ ◌+ℤ◌ (*ℤ_comm a k) (*ℤ_comm b k)

-- a product with the opposite of a number
pub neg_mul : (a k : ℤ) → neg_ℤ a *ℤ k ≡ neg_ℤ (a *ℤ k)
neg_mul (pos zero) k = simp zero-*ℤ
neg_mul (pos (suc n)) (pos k) = refl
neg_mul (pos (suc n)) (negsuc k) = sym (neg_ℤ-neg_ℤ (pos (suc n * suc k)))
neg_mul (negsuc n) (pos k) = sym (neg_ℤ-neg_ℤ (pos (suc n * k)))
neg_mul (negsuc n) (negsuc k) = refl

pub mul_neg : (k a : ℤ) → k *ℤ neg_ℤ a ≡ neg_ℤ (k *ℤ a)
mul_neg k a = *ℤ_comm k (neg_ℤ a) ∙ neg_mul a k ∙ ap neg_ℤ (*ℤ_comm a k)

-- two sums, summed the other way
pub add_pairs : (a b c d : ℤ) → (a +ℤ b) +ℤ (c +ℤ d) ≡ (a +ℤ c) +ℤ (b +ℤ d)
add_pairs a b c d = omega (arith, ints)

-- the difference of a number and a smaller one
pub minus-less : (a b : ℕ) → b ≤ a → pos a -ℤ pos b ≡ pos (a - b)
minus-less a b h = omega (arith, ints)

-- a sum with c taken off, taken off its first summand
pub minus_sum : (a b c : ℤ) → a -ℤ (a +ℤ b -ℤ c) ≡ c -ℤ b
minus_sum a b c = omega (arith, ints)

-- ---- differences

-- what is added and taken off again
pub plus-minus : (a b : ℤ) → (a +ℤ b) -ℤ b ≡ a
plus-minus a b = omega (arith, ints)

-- or taken off and added again
pub minus_plus : (a b : ℤ) → (a -ℤ b) +ℤ b ≡ a
minus_plus a b = omega (arith, ints)

-- the first summand taken off
pub sum_minus : (a b : ℤ) → (a +ℤ b) -ℤ a ≡ b
sum_minus a b = omega (arith, ints)

-- a number and how far another lies from it
pub plus_difference : (a b : ℤ) → a +ℤ (b -ℤ a) ≡ b
plus_difference a b = omega (arith, ints)

-- a difference taken off
pub minus_difference : (a b c : ℤ) → a -ℤ (b -ℤ c) ≡ (a -ℤ b) +ℤ c
minus_difference a b c = omega (arith, ints)

-- from the number itself
pub minus_minus : (a b : ℤ) → a -ℤ (a -ℤ b) ≡ b
minus_minus a b = omega (arith, ints)

-- both moved by as much
pub difference_moved : (a b d : ℤ) → (a +ℤ d) -ℤ (b +ℤ d) ≡ a -ℤ b
difference_moved a b d = omega (arith, ints)

-- ---- sizes

-- a sign does not change the size,
pub abs_neg : (a : ℤ) → nat_abs (neg_ℤ a) ≡ nat_abs a
abs_neg a = omega (arith, ints)

-- nor does the sign a number is given
pub abs_with_sign : (minus : Bool) (n : ℕ) → nat_abs (with_sign minus n) ≡ n
abs_with_sign true n = abs_neg (pos n)
abs_with_sign false n = refl

-- the size of a sum
abs-+ℤ : (a b : ℤ) → nat_abs (a +ℤ b) ≤ nat_abs a + nat_abs b
abs-+ℤ a b = omega (arith, ints)

-- a difference is no larger than what each exceeds the other by
pub abs_minus : (a b n : ℕ) → a ≤ b + n → b ≤ a + n → nat_abs (pos a -ℤ pos b) ≤ n
abs_minus a b n h k = omega (arith, ints)

-- a sum is no larger than the bounds of its summands together
pub abs_add : (a b : ℤ) (m n : ℕ) → nat_abs a ≤ m → nat_abs b ≤ n → nat_abs (a +ℤ b) ≤ m + n
abs_add a b m n h k = omega (arith, ints)

-- the size of a product
pub abs-*ℤ : (a b : ℤ) → nat_abs (a *ℤ b) ≡ nat_abs a * nat_abs b
abs-*ℤ a b = unsigned_abs-mul a b

-- a product is no larger than the product of its factors' bounds
pub abs_mul : (a b : ℤ) (m n : ℕ) → nat_abs a ≤ m → nat_abs b ≤ n → nat_abs (a *ℤ b) ≤ m * n
abs_mul a b m n h k = rw (abs-*ℤ a b) (mul-le-mul h k)

-- ---- quotients

-- a number is its quotient times the divisor, and the rest
pub quotient_rest : (z : ℤ) (m : ℕ) → pos m *ℤ quot_z z (pos m) +ℤ rem_z z (pos m) ≡ z
quotient_rest z m = ap (λ (q : ℤ). q +ℤ rem_z z (pos m)) (*ℤ_comm (pos m) (quot_z z (pos m))) ∙ quot-rem z (pos m)

-- the rest is below the divisor
pub rest-small : (z : ℤ) (m : ℕ) → 0 < m → nat_abs (rem_z z (pos m)) < m
rest-small z m h = rem_below z (pos m) h

-- the size of the quotient
pub quotient_size : (z : ℤ) (m : ℕ) → nat_abs (quot_z z (pos m)) ≡ nat_abs z / m
quotient_size (pos a) m = refl
quotient_size (negsuc a) m = abs_neg (pos (suc a / m))

-- ---- machine words

-- the measure that a word's range is stated by
mag_abs : (a : ℤ) → mag a ≤ nat_abs a
mag_abs (pos n) = omega arith
mag_abs (negsuc n) = omega arith

-- what is bounded in size fits; the last argument is `lit< tt` at numerals
pub fits_abs : (w : Width) (a : ℤ) (n : ℕ) → nat_abs a ≤ n → n < 2 ^ hbits w → SFits w a
fits_abs w a n h k = record { sfits = lt_of_le_of_lt (le_trans (mag_abs a) h) k }

-- 32 bits, signed: the size is at most 2^31
pub abs_word : (a : ℤ) → SFits w32 a → nat_abs a ≤ 2147483648
abs_word a f = nat_abs-le a f.sfits

-- the product of two such numbers: at most 2^62
pub abs_product : (a b : ℤ) → SFits w32 a → SFits w32 b → nat_abs (a *ℤ b) ≤ 4611686018427387904
abs_product a b f g = abs_mul a b 2147483648 2147483648 (abs_word a f) (abs_word b g)

-- 64 bits hold what 32 do
pub wide : (a : ℤ) → SFits w32 a → SFits w64 a
wide a f = sfits_widen tt f

-- what is read from a word of 32 and written to one of 64 is the same number there
pub widened : (a : ℤ) → SFits w32 a → to_z w64 (of_z w64 (to_z w32 (of_z w32 a))) ≡ a
widened a f = simp (to_z-of_z f, to_z-of_z (wide a f))

-- 64 bits hold the sums of two such numbers
pub sum_fits : (a b : ℤ) → SFits w32 a → SFits w32 b → SFits w64 (a +ℤ b)
sum_fits a b f g =
    fits_abs w64 (a +ℤ b) 4294967296 (abs_add a b 2147483648 2147483648 (abs_word a f) (abs_word b g)) (lit< tt)

-- a difference is no larger than the bounds of both together
pub abs_sub : (a b : ℤ) (m n : ℕ) → nat_abs a ≤ m → nat_abs b ≤ n → nat_abs (a -ℤ b) ≤ m + n
abs_sub a b m n h k = omega (arith, ints)

-- and products
pub product_fits : (a b : ℤ) → SFits w32 a → SFits w32 b → SFits w64 (a *ℤ b)
product_fits a b f g = fits_abs w64 (a *ℤ b) 4611686018427387904 (abs_product a b f g) (lit< tt)

-- a count of 16 bits fits 32, signed
pub count_fits : (n : ℕ) → n < 65536 → SFits w32 (pos n)
count_fits n h = record { sfits = omega arith }

-- a quotient fits where the number does
pub mag_quotient : (z : ℤ) (m : ℕ) → mag (quot_z z (pos m)) ≤ mag z
mag_quotient (pos a) m = div-le_self a m
mag_quotient (negsuc a) m = go (suc a / m) (div-le_self (suc a) m)
  where
    go : (q : ℕ) → q ≤ suc a → mag (neg_ℤ (pos q)) ≤ a
    go zero h = omega arith
    go (suc q) h = omega arith

-- a call's result, read back from the word that holds it: `read_back w64 c.f.result c.f.ok`
pub read_back : (w : Width) (a : ℤ) → mag a < 2 ^ hbits w → to_z w (of_z w a) ≡ a
read_back w a h = let f : SFits w a = record { sfits = h } in to_z-of_z f
