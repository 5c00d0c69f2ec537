-- Laws of what the hits of a G66 have in common: that it leads where the definition does, and how large its numbers are.
use mathlib.Core.Path.{◌≡◌, refl, sym, ap, ◌∙◌}
use mathlib.Core.Bool.{Bool, true, false, cond}
use Prim.Native.Nat.{ℕ, max, ◌+◌, ◌*◌, ◌≤◌, ◌<◌}
use native.Mathlib.Nat.{mul-le-mul, mul_comm, le_refl, le_trans, div-le_of_le-mul}
use native.Mathlib.Numerals.{add-one}
use native.Mathlib.Omega.{arith}
use lib.Dec.{eqb, lit≤}
use lib.IntN.{ℤ, pos, neg_ℤ, nat_abs, ◌+ℤ◌, ◌-ℤ◌, ◌*ℤ◌}
use mir.Syntax.{w32}
use mir.Val.{SFits}
use borrow.Author.Tests.{eqb-true, eqb-false}
use Rattle.std.proofs.lemmas.Int.{ints}
use Rattle.signed.proofs.Integers.{abs_word, abs_minus, abs-*ℤ, mul_add, mul_neg, zero_minus, quotient_rest, quotient_size, rest-small}
use Rattle.sine.specs.declared.Direction.{Direction}
use Rattle.sine.specs.Series.{one}
use Rattle.sine.specs.Sine.{direction_of, rounded}
use Rattle.aries.specs.Moves.{point_at}
use Rattle.sine.proofs.Bounds.{sine-small, cosine-small}
use Rattle.aries.specs.declared.block.Shear.{Shear}
use Rattle.aries.specs.Shear.{is_fit, travel, steps, divisor, denominator, along_part, across_part, shear_offset}
use Rattle.aries.proofs.Shear.{first_is}
use Rattle.shears.specs.declared.fractions.Fraction.{Fraction}
use Rattle.shears.specs.Fractions.{split, value_of, Reduced}
use Rattle.shears.specs.Cuts.{cut_of, cut_denominator, along_cut, cut_offset, Bounded}
use Rattle.shears.specs.declared.places.Cut.{Cut}
use Rattle.shears.proofs.Sizes.{travel_bound, steps_bound}

-- ---- What it is made of

-- the travel is divided by the steps, and by 1 where there is none
pub divisor_is : (s : Shear) → max (steps s) 1 ≡ divisor s
unfolding divisor
divisor_is s = go (eqb (steps s) 0) refl
  where
    go : (t : Bool) → eqb (steps s) 0 ≡ t → max (steps s) 1 ≡ cond t 1 (steps s)
    go true e = omega (arith, eqb-true (steps s) 0 e)
    go false e = omega (arith, eqb-false (steps s) 0 e)

-- the numbers of a cut, put together
pub cut_is :
    (j : ℕ) (s : Shear) {n size way d : ℕ} {across : Fraction} {direction : Direction} → n ≡ steps s → size ≡ nat_abs s.length → way ≡ travel s
    → d ≡ divisor s → across ≡ split (2 * d) (pos d *ℤ s.across) → direction ≡ direction_of (pos j)
    → record { hits = n + 1; ahead = d * size; behind = d * way; step = 2 * way; across = across; direction = direction } ≡ cut_of j s
unfolding across_part
cut_is j s n-is size_is way-is d-is across-is direction-is = rw (across-is, n-is, size_is, way-is, d-is, direction-is, add-one)

-- ---- Where it leads

-- a difference and one more number
more_ahead : (a b c : ℤ) → a -ℤ b +ℤ c ≡ a +ℤ c -ℤ b
more_ahead a b c = omega (arith, ints)

module _ (j : ℕ) (s : Shear) (fit : is_fit s ≡ true) (k : ℕ) where
  along_is : along_cut (cut_of j s) k ≡ along_part s k
  unfolding along_part
  along_is =
      sym (more_ahead (pos (divisor s * nat_abs s.length)) (pos (divisor s * travel s)) (pos (2 * travel s * k)))
      ∙ ap (λ (z : ℤ). z +ℤ pos (2 * travel s * k))
      (sym
      (ap (λ (z : ℤ). pos (divisor s) *ℤ z) (first_is s fit)
      ∙ mul_add (pos (nat_abs s.length)) (neg_ℤ (pos (travel s))) (pos (divisor s))
      ∙ ap (λ (z : ℤ). pos (divisor s * nat_abs s.length) +ℤ z) (mul_neg (pos (divisor s)) (pos (travel s)))))

  pub offset_is : cut_offset (cut_of j s) k ≡ shear_offset j s k
  unfolding cut_offset shear_offset direction_of
  offset_is = rw (along_is, quotient_rest (across_part s) (denominator s))

-- the axes of a hit, by the fraction that lies along the line
pub place_is :
    (c : Cut) (k : ℕ) {x y : ℤ} {along : Fraction} → along ≡ split (cut_denominator c) (along_cut c k)
    → x ≡ rounded (value_of along *ℤ c.direction.cosine +ℤ value_of c.across *ℤ (pos 0 -ℤ c.direction.sine)) (along.denominator * one)
    → y ≡ rounded (value_of along *ℤ c.direction.sine +ℤ value_of c.across *ℤ c.direction.cosine) (along.denominator * one)
    → point_at x y ≡ cut_offset c k
unfolding cut_offset
place_is c k along-is x-is y-is =
    rw (x-is, y-is, along-is, quotient_rest (along_cut c k) (cut_denominator c), zero_minus, mul_neg)

-- ---- Sizes

-- hit k along the line is as small as a fraction may be
pub along_reduced : (c : Cut) (k : ℕ) → Bounded c k → Reduced (split (cut_denominator c) (along_cut c k))
along_reduced c k bounded =
    let way = along_cut c k in
    let m = cut_denominator c in
    record {
      small = rw (quotient_size way m) (div-le_of_le-mul m bounded.along);
      less = rest-small way m bounded.some;
      narrow = bounded.across.narrow;
    }

-- what the travel is divided by
divisor-some : (s : Shear) → 0 < divisor s
divisor-some s = omega (arith, divisor_is s)

divisor-steps : (s : Shear) → steps s ≤ divisor s
divisor-steps s = omega (arith, divisor_is s)

divisor-least : (s : Shear) (n : ℕ) → 1 ≤ n → steps s ≤ n → divisor s ≤ n
divisor-least s n h k = omega (arith, divisor_is s)

module _
    (s : Shear) (length-fits : SFits w32 s.length) (across-fits : SFits w32 s.across) (compensation-fits : SFits w32 s.compensation)
    (fit : is_fit s ≡ true)
  where
    pub divisor_bound : divisor s ≤ 126322567
    divisor_bound = divisor-least s 126322567 (lit≤ tt) (steps_bound s length-fits compensation-fits fit)

    pub denominator-some : 0 < denominator s
    denominator-some = omega (arith, divisor-some s)

    -- n × I, n × T and 2 T × k
    length_bound : nat_abs s.length ≤ 2147483648
    length_bound = abs_word s.length length-fits

    way_bound : travel s ≤ 6442450944
    way_bound = travel_bound s length-fits compensation-fits fit

    pub ahead_bound : divisor s * nat_abs s.length ≤ 271275647005884416
    ahead_bound = mul-le-mul divisor_bound length_bound

    pub behind_bound : divisor s * travel s ≤ 813826941017653248
    behind_bound = mul-le-mul divisor_bound way_bound

    module _ (j k : ℕ) (inside : k ≤ steps s) where
      -- 2 T × k is no more than 2 T × n
      steps_gone : 2 * travel s * k ≤ 2 * (divisor s * travel s)
      steps_gone = omega (arith, mul-le-mul (le_refl (2 * travel s)) (le_trans inside (divisor-steps s)), mul_comm (divisor s) (travel s))

      along_bound : nat_abs (along_cut (cut_of j s) k) ≤ denominator s * 4294967296
      along_bound =
          let i = mul-le-mul (le_refl (divisor s)) length_bound in
          let t = mul-le-mul (le_refl (divisor s)) way_bound in
          abs_minus (divisor s * nat_abs s.length + 2 * travel s * k) (divisor s * travel s) (denominator s * 4294967296)
          (omega (arith, i, t, steps_gone)) (omega (arith, t))

      across_bound : Reduced (split (denominator s) (across_part s))
      unfolding across_part
      across_bound =
          let size : nat_abs (across_part s) ≤ denominator s * nat_abs s.across = rw (abs-*ℤ (pos (divisor s)) s.across) (mul-le-mul (omega arith) (le_refl (nat_abs s.across))) in
          record {
            small = rw (quotient_size (across_part s) (denominator s)) (le_trans (div-le_of_le-mul (denominator s) size) (le_trans (abs_word s.across across-fits) (lit≤ tt)));
            less = rest-small (across_part s) (denominator s) denominator-some;
            narrow = omega (arith, divisor_bound);
          }

      pub cut_bounded : Bounded (cut_of j s) k
      unfolding direction_of
      cut_bounded =
          record {
            some = denominator-some;
            ahead = omega (arith, ahead_bound, steps_gone, behind_bound);
            behind = omega (arith, behind_bound);
            along = along_bound;
            across = across_bound;
            cosine = cosine-small (pos j);
            sine = sine-small (pos j);
          }
