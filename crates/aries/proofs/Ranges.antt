-- Laws of the ranges: the numbers that pass a range are small, absent ones too.
use Rattle.std.specs.Prelude.{None, Option, Some, option_map, unwrap_or}
use mathlib.Core.Path.{◌≡◌, refl, sym, subst}
use mathlib.Core.Bool.{Bool, true, false, not, ◌&&◌, ◌||◌}
use mathlib.Core.List.{List, [], ◌∷◌}
use Prim.Native.Nat.{ℕ, ◌≤◌}
use native.Mathlib.Nat.{le_trans}
use native.Mathlib.Omega.{arith}
use lib.Dec.{T, eqb, leb}
use lib.IntN.{pos, nat_abs}
use borrow.Author.Tests.{eqb-true, leb-true}
use Rattle.signed.proofs.Tests.{and_left, and_right}
use Rattle.aries.specs.declared.word.Word.{Word}
use Rattle.aries.specs.declared.block.Kind.{Kind}
use Rattle.aries.specs.Test.{within, every}
use Rattle.aries.specs.ByLetter.{Letters, at, absent_or, is_plain}
use Rattle.aries.specs.Numbers.{Range, above_zero, not_negative, whole, signed_whole, is_of_range, number_fits, ranges_of, common_ranges, is_ranged}
use Rattle.aries.specs.Blocks.{count}

-- ---- One word

-- whether a range holds whole numbers of at most so much
abbrev up_to : ℕ → Range → Bool
up_to cap above_zero = false
up_to cap not_negative = false
up_to cap (whole least most) = leb most cap
up_to cap (signed_whole least most) = leb most cap

-- a number within bounds, by two tests
bounded : (t : Bool) (least most n cap : ℕ) → leb most cap ≡ true → (t && within least most n) ≡ true → n ≤ cap
bounded t least most n cap u h =
    le_trans (leb-true n most (and_right (leb least n) (leb n most) (and_right t (within least most n) h))) (leb-true most cap u)

-- a number that passes such a range, or is absent
small-enough :
    (range : Range) (o : Option Word) (cap : ℕ) → up_to cap range ≡ true → absent_or (is_of_range range) o ≡ true
    → nat_abs (unwrap_or (option_map (λ (v : Word). v.value) o) (pos 0)) ≤ cap
small-enough range None cap u h = omega arith
small-enough above_zero (Some v) cap u h = absurd (subst T (sym u) tt)
small-enough not_negative (Some v) cap u h = absurd (subst T (sym u) tt)
small-enough (whole least most) (Some v) cap u h = bounded (is_plain v) least most (nat_abs v.value) cap u h
small-enough (signed_whole least most) (Some v) cap u h = bounded (not v.pointed) least most (nat_abs v.value) cap u h

-- ---- The words of a block

-- whether a table holds the number of a letter to at most so much
abbrev pub limits : List (ℕ × Range) → ℕ → ℕ → Bool
limits [] letter cap = false
limits (e ∷ es) letter cap = (eqb e.0 letter && up_to cap e.1) || limits es letter cap

module _ (w : Letters) where
  -- where all numbers of the table fit, that one does
  limited : (es : List (ℕ × Range)) (letter cap : ℕ) → limits es letter cap ≡ true → every (number_fits w) es ≡ true → count w letter ≤ cap
  limited [] letter cap l h = absurd (subst T (sym l) tt)
  limited (e ∷ es) letter cap l h =
      go (eqb e.0 letter && up_to cap e.1) refl l (λ m. limited es letter cap m (and_right (number_fits w e) (every (number_fits w) es) h))
    where
      go :
          (here : Bool) → (eqb e.0 letter && up_to cap e.1) ≡ here → (here || limits es letter cap) ≡ true
          → (limits es letter cap ≡ true → count w letter ≤ cap)
          → count w letter ≤ cap
      go true b m later =
          let first = small-enough e.1 (at w e.0) cap (and_right (eqb e.0 letter) (up_to cap e.1) b) (and_left (number_fits w e) (every (number_fits w) es) h) in
          subst (λ (n : ℕ). count w n ≤ cap) (eqb-true e.0 letter (and_left (eqb e.0 letter) (up_to cap e.1) b)) first
      go false b m later = later m

  module _ (k : Kind) (ranged : is_ranged w k ≡ true) where
    -- a number that is limited by the table of the kind that it is
    pub own_limit : {l : Kind} → k ≡ l → (letter cap : ℕ) → limits (ranges_of l) letter cap ≡ true → count w letter ≤ cap
    unfolding is_ranged
    own_limit e letter cap l = limited (ranges_of k) letter cap (rw e l) (and_left (every (number_fits w) (ranges_of k)) (every (number_fits w) common_ranges) ranged)

    -- one that is limited wherever it stands
    pub common_limit : (letter cap : ℕ) → limits common_ranges letter cap ≡ true → count w letter ≤ cap
    unfolding is_ranged
    common_limit letter cap l = limited common_ranges letter cap l (and_right (every (number_fits w) (ranges_of k)) (every (number_fits w) common_ranges) ranged)
