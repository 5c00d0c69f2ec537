-- Laws of G66: what 18 leaves of its numbers, and that its steps are the fewest.
use mathlib.Core.Path.{◌≡◌, refl, sym, ap, ap₂, ◌∙◌}
use mathlib.Core.Bool.{Bool, true, false, true≢false, cond}
use Prim.Native.Nat.{ℕ, suc, ◌+◌, ◌-◌, ◌*◌, ◌/◌, ◌≤◌, ◌<◌}
use native.Mathlib.Nat.{div-lt_iff_lt-mul, lt-suc_self, mul-zero, mul-suc, mul_comm, mul-le-mul, le_refl, le_of_suc-le-suc, div-mul-le_self}
use native.Mathlib.Omega.{arith}
use lib.IntN.{ℤ, pos, negsuc, neg_ℤ, nat_abs, ◌+ℤ◌, ◌-ℤ◌, ◌*ℤ◌, +ℤ_assoc, +ℤ_comm, +ℤ_idl, +ℤ_idr, +ℤ-neg_ℤ_cancel, -ℤ-+ℤ_cancel, +ℤ_invr, zero-*ℤ, suc_ℤ-*ℤ}
use lib.Dec.{eqb}
use lib.Signed.{le_z}
use borrow.Author.Tests.{eqb-true, ltb-true, leb-true}
use Rattle.signed.proofs.Integers.{pos_injective, times_mul, mul_add, mul_neg, minus-less, minus_sum}
use Rattle.signed.proofs.Tests.{and_left, and_right}
use Rattle.aries.specs.declared.block.Shear.{Shear}
use Rattle.aries.specs.declared.block.Pattern.TheVariants as pattern
use Rattle.aries.specs.Shear.{width, cut_length, on_one_side, is_wide, is_long, holds_tool, is_fit, travel, longest_step, steps, divisor, denominator, along_part}
use Rattle.aries.specs.Patterns.{hit_count}
use Rattle.aries.specs.FewestSteps.{Suffice, FewestSteps}

-- ---- What 18 has found

module _ (s : Shear) (fit : is_fit s ≡ true) where
  -- w is above 1 mm
  pub fit_wide : 100 < width s
  unfolding is_fit
  fit_wide = ltb-true 100 (width s) (and_left (is_wide s) _ (and_right (on_one_side s) _ fit))

  -- I is not under 1.5 times w
  pub fit_long : is_long s ≡ true
  unfolding is_fit
  fit_long = and_left (is_long s) (holds_tool s) (and_right (is_wide s) _ (and_right (on_one_side s) _ fit))

  -- and L is not under w
  pub fit_holds : holds_tool s ≡ true
  unfolding is_fit
  fit_holds = and_right (is_long s) (holds_tool s) (and_right (is_wide s) _ (and_right (on_one_side s) _ fit))

-- a number that is not under another
not_under : (n : ℕ) (z : ℤ) → le_z (pos n) z ≡ true → (n ≤ nat_abs z) × (z ≡ pos (nat_abs z))
not_under n (pos a) e = (leb-true n a e, refl)
not_under n (negsuc a) e = absurd (true≢false (sym e))

-- twice a number that is not negative
half_positive : (n : ℕ) (z : ℤ) → le_z (pos n) (pos 2 *ℤ z) ≡ true → 0 < n → z ≡ pos (nat_abs z)
half_positive n (pos a) e h = refl
half_positive n (negsuc a) e h =
    let more : 2 * suc a ≡ suc (2 * a + 1) = omega arith in
    absurd (true≢false (sym (rw more at e)))

module _ (s : Shear) (fit : is_fit s ≡ true) where
  -- I is above zero
  pub length_positive : s.length ≡ pos (nat_abs s.length)
  length_positive = half_positive (3 * width s) s.length (fit_long s fit) (omega (arith, fit_wide s fit))

  -- L is the travel and w,
  pub travel_is : cut_length s -ℤ pos (width s) ≡ pos (travel s)
  unfolding travel
  travel_is =
      let h = not_under (width s) (cut_length s) (fit_holds s fit) in
      let e : cut_length s -ℤ pos (width s) ≡ pos (nat_abs (cut_length s) - width s) =
      ap (λ (z : ℤ). z -ℤ pos (width s)) h.1 ∙ minus-less (nat_abs (cut_length s)) (width s) h.0 in
      e ∙ ap (λ (z : ℤ). pos (nat_abs z)) (sym e)

  -- by their sizes
  pub cut_size : travel s + width s ≡ nat_abs (cut_length s)
  cut_size =
      let h = not_under (width s) (cut_length s) (fit_holds s fit) in
      let e : travel s ≡ nat_abs (cut_length s) - width s =
      pos_injective (travel s) (nat_abs (cut_length s) - width s) (sym travel_is ∙ ap (λ (z : ℤ). z -ℤ pos (width s)) h.1 ∙ minus-less (nat_abs (cut_length s)) (width s) h.0) in
      omega arith

  -- the first hit lies as far before the middle of I as the last one lies past it
  pub first_is : pos (width s) -ℤ pos 2 *ℤ s.compensation ≡ pos (nat_abs s.length) -ℤ pos (travel s)
  first_is =
      sym (minus_sum s.length (pos 2 *ℤ s.compensation) (pos (width s)))
      ∙ ap₂ ◌-ℤ◌ length_positive travel_is

-- ---- The fewest steps

-- a quotient with its rest counted as one more is the least that suffices
module _ (way most : ℕ) (some : 0 < most) where
  quotient_enough : way ≤ (way + (most - 1)) / most * most
  quotient_enough =
      let h = (div-lt_iff_lt-mul {k = most} {x = way + (most - 1)} some).0 (lt-suc_self ((way + (most - 1)) / most)) in omega arith

  quotient_least : (m : ℕ) → way ≤ m * most → (way + (most - 1)) / most ≤ m
  quotient_least m h = le_of_suc-le-suc ((div-lt_iff_lt-mul {k = most} {x = way + (most - 1)} {y = suc m} some).1 (omega arith))

-- a number of size 0
size_zero : (z : ℤ) → nat_abs z ≡ 0 → z ≡ pos 0
size_zero (pos n) e = ap pos e
size_zero (negsuc n) e = absurd (omega arith)

-- numbers whose difference has size 0
same_numbers : (a b : ℤ) → nat_abs (a -ℤ b) ≡ 0 → a ≡ b
same_numbers a b e = sym (-ℤ-+ℤ_cancel a b) ∙ ap (λ (z : ℤ). z +ℤ b) (size_zero (a -ℤ b) e) ∙ +ℤ_idl b

module _ (s : Shear) (fit : is_fit s ≡ true) where
  -- the longest step is above zero
  pub step_some : 0 < longest_step s
  step_some = omega (arith, fit_wide s fit)

  pub steps-enough : Suffice s (steps s)
  unfolding steps
  steps-enough = quotient_enough (travel s) (longest_step s) step_some

  steps-least : (m : ℕ) → Suffice s m → steps s ≤ m
  unfolding steps
  steps-least m h = quotient_least (travel s) (longest_step s) step_some m h

  -- the longest step is above 0.5 mm, so that they are few
  pub steps_few : 51 * steps s ≤ nat_abs (cut_length s)
  unfolding steps
  steps_few =
      let most = div-mul-le_self (travel s + (longest_step s - 1)) (longest_step s) in
      let wide : 51 ≤ longest_step s = omega (arith, fit_wide s fit) in
      omega (arith, most, mul-le-mul (le_refl (steps s)) wide, cut_size s fit)

  -- without a step there is no way to go
  pub no_step : steps s ≡ 0 → travel s ≡ 0
  no_step e = let h : travel s ≤ 0 * longest_step s = rw e at steps-enough in omega arith

  -- one hit, and L that equals w
  one_hit : (j : ℕ) → hit_count (pattern.Shear j s) ≡ 1 → cut_length s ≡ pos (width s)
  unfolding hit_count travel
  one_hit j e = same_numbers (cut_length s) (pos (width s)) (no_step (omega arith))

  equals_tool : (j : ℕ) → cut_length s ≡ pos (width s) → hit_count (pattern.Shear j s) ≡ 1
  unfolding hit_count travel
  equals_tool j e =
      let still : travel s ≡ 0 = ap (λ (z : ℤ). nat_abs (z -ℤ pos (width s))) e ∙ ap nat_abs (+ℤ_invr (pos (width s))) in
      omega (arith, steps-least 0 (omega arith))

  -- a hit more is a step more
  equal-steps : (k : ℕ) → along_part s (suc k) ≡ along_part s k +ℤ pos (2 * travel s)
  unfolding along_part
  equal-steps k =
      ap (λ (n : ℕ). pos (divisor s) *ℤ (pos (width s) -ℤ pos 2 *ℤ s.compensation) +ℤ pos n) (mul-suc (2 * travel s) k)
      ∙ sym (+ℤ_assoc (pos (divisor s) *ℤ (pos (width s) -ℤ pos 2 *ℤ s.compensation)) (pos (2 * travel s * k)) (pos (2 * travel s)))

-- ---- What is cut

-- twice a number
twice : (z : ℤ) → pos 2 *ℤ z ≡ z +ℤ z
twice z = suc_ℤ-*ℤ (pos 1) z ∙ ap (λ (a : ℤ). a +ℤ z) (suc_ℤ-*ℤ (pos 0) z ∙ ap (λ (a : ℤ). a +ℤ z) (zero-*ℤ z) ∙ +ℤ_idl z)

twice-times : (n : ℕ) (z : ℤ) → pos n *ℤ (pos 2 *ℤ z) ≡ pos (2 * n) *ℤ z
twice-times n z = sym (times_mul n (pos 2) z) ∙ ap (λ (k : ℕ). pos k *ℤ z) (mul_comm n 2)

-- w/2 − D less half of w, times 2 n
begins-at : (n w : ℕ) (d : ℤ) → pos n *ℤ (pos w -ℤ pos 2 *ℤ d) -ℤ pos (n * w) ≡ neg_ℤ (pos (2 * n) *ℤ d)
begins-at n w d =
    ap (λ (z : ℤ). z -ℤ pos (n * w))
    (mul_add (pos w) (neg_ℤ (pos 2 *ℤ d)) (pos n) ∙ ap (λ (z : ℤ). pos (n * w) +ℤ z) (mul_neg (pos n) (pos 2 *ℤ d) ∙ ap neg_ℤ (twice-times n d)) ∙ +ℤ_comm (pos (n * w)) (neg_ℤ (pos (2 * n) *ℤ d)))
    ∙ +ℤ-neg_ℤ_cancel (neg_ℤ (pos (2 * n) *ℤ d)) (pos (n * w))

-- that, L − w twice, and w: twice I and D
module _ (w t : ℕ) (i d : ℤ) (first : pos w -ℤ pos 2 *ℤ d ≡ i -ℤ pos t) (way : i +ℤ pos 2 *ℤ d -ℤ pos w ≡ pos t) where
  both_ends : pos w -ℤ pos 2 *ℤ d +ℤ pos (2 * t) +ℤ pos w ≡ pos 2 *ℤ (i +ℤ d)
  both_ends =
      ap (λ (z : ℤ). z +ℤ pos w) (ap₂ ◌+ℤ◌ first (twice (pos t)) ∙ sym (+ℤ_assoc (i -ℤ pos t) (pos t) (pos t)) ∙ ap (λ (z : ℤ). z +ℤ pos t) (-ℤ-+ℤ_cancel i (pos t)))
      ∙ +ℤ_assoc i (pos t) (pos w)
      ∙ ap (λ (z : ℤ). i +ℤ z) (ap (λ (z : ℤ). z +ℤ pos w) (sym way) ∙ -ℤ-+ℤ_cancel (i +ℤ pos 2 *ℤ d) (pos w))
      ∙ sym (+ℤ_assoc i i (pos 2 *ℤ d)) ∙ ap (λ (z : ℤ). z +ℤ pos 2 *ℤ d) (sym (twice i)) ∙ sym (mul_add i d (pos 2))

  ends_at : (n k : ℕ) → 2 * t * k ≡ n * (2 * t) → pos n *ℤ (pos w -ℤ pos 2 *ℤ d) +ℤ pos (2 * t * k) +ℤ pos (n * w) ≡ pos (2 * n) *ℤ (i +ℤ d)
  ends_at n k e =
      ap (λ (a : ℕ). pos n *ℤ (pos w -ℤ pos 2 *ℤ d) +ℤ pos a +ℤ pos (n * w)) e
      ∙ ap (λ (z : ℤ). z +ℤ pos (n * w)) (sym (mul_add (pos w -ℤ pos 2 *ℤ d) (pos (2 * t)) (pos n)))
      ∙ sym (mul_add (pos w -ℤ pos 2 *ℤ d +ℤ pos (2 * t)) (pos w) (pos n))
      ∙ ap (λ (z : ℤ). pos n *ℤ z) both_ends ∙ twice-times n (i +ℤ d)

module _ (s : Shear) (fit : is_fit s ≡ true) where
  -- after n steps all of the travel is behind
  all_gone : 2 * travel s * steps s ≡ divisor s * (2 * travel s)
  unfolding divisor
  all_gone = go (eqb (steps s) 0) refl
    where
      go : (t : Bool) → eqb (steps s) 0 ≡ t → 2 * travel s * steps s ≡ cond t 1 (steps s) * (2 * travel s)
      go true e =
          let none = eqb-true (steps s) 0 e in
          let still : 0 ≡ 1 * (2 * travel s) = omega (arith, no_step s fit none) in
          ap (λ (n : ℕ). 2 * travel s * n) none ∙ mul-zero (2 * travel s) ∙ still
      go false e = mul_comm (2 * travel s) (steps s)

  cut_begins : along_part s 0 -ℤ pos (divisor s * width s) ≡ neg_ℤ (pos (denominator s) *ℤ s.compensation)
  unfolding along_part
  cut_begins =
      ap (λ (n : ℕ). pos (divisor s) *ℤ (pos (width s) -ℤ pos 2 *ℤ s.compensation) +ℤ pos n -ℤ pos (divisor s * width s)) (mul-zero (2 * travel s))
      ∙ ap (λ (z : ℤ). z -ℤ pos (divisor s * width s)) (+ℤ_idr (pos (divisor s) *ℤ (pos (width s) -ℤ pos 2 *ℤ s.compensation)))
      ∙ begins-at (divisor s) (width s) s.compensation

  cut_ends : along_part s (steps s) +ℤ pos (divisor s * width s) ≡ pos (denominator s) *ℤ (s.length +ℤ s.compensation)
  unfolding along_part
  cut_ends =
      ends_at (width s) (travel s) s.length s.compensation
      (first_is s fit ∙ ap (λ (z : ℤ). z -ℤ pos (travel s)) (sym (length_positive s fit))) (travel_is s fit) (divisor s) (steps s) all_gone

pub fewest_steps : FewestSteps
fewest_steps s fit =
    record {
      goes = sym (travel_is s fit);
      overlaps = omega (arith, fit_wide s fit);
      begins = cut_begins s fit;
      ends = cut_ends s fit;
      equal = equal-steps s fit;
      enough = steps-enough s fit;
      least = steps-least s fit;
      single = λ j. (one_hit s fit j, equals_tool s fit j);
    }
