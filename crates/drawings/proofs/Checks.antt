-- A list and a table agree exactly if every hole stands in both equally often.
use Rattle.std.proofs.Common.{◌≡◌, ℕ, ◌+◌, ◌≤◌, ◌⊎◌, inl, inr, Bool, true, false, List, [], ◌∷◌, Option, Some, None, Ok, ltb-false, sym, refl, arith}
use Rattle.std.specs.Prelude.{ℤ}
use Rattle.std.specs.List.{position_from}
use Rattle.std.proofs.lemmas.Bool.Decides.{Decides-int_eq}
use Rattle.drawings.specs.declared.hole.Hole.{Hole}
use Rattle.drawings.specs.Holes.{same_hole, is_at, table_holes, list_holes}
use Rattle.drawings.specs.Counts.{times, is_over, first_over}
use Rattle.drawings.specs.Checks.{verdict, checked, EquallyOften, AgreeExactlyWhen}

-- holes that are one are equal
pub same_equal : (a b : Hole) → same_hole a b ≡ true → a ≡ b
same_equal a b e = grind (arith, Decides-int_eq)

module _ (these those : List (Option Hole)) where
  -- a hole that is not over stands at these at most as often as at those
  within : (h : Hole) (k : Option Hole) → is_at h k ≡ true → is_over these those k ≡ false → times h these ≤ times h those
  within h None here over = cc
  within h (Some k) here over = rw (← same_equal k h here) (ltb-false (times k those) (times k these) over)

  -- where none of some places is over, a hole stands at none of them, or at these at most as often as at those
  not_over :
      (h : Hole) (ks : List (Option Hole)) (i : ℕ) → position_from (is_over these those) i ks ≡ None
      → (times h ks ≡ 0) ⊎ (times h these ≤ times h those)
  not_over h [] i e = inl refl
  not_over h (k ∷ ks) i e = by (is_over these those k) refl (is_at h k) refl (not_over h ks (i + 1))
    where
      by :
          (over : Bool) → is_over these those k ≡ over → (here : Bool) → is_at h k ≡ here
          → (position_from (is_over these those) (i + 1) ks ≡ None → (times h ks ≡ 0) ⊎ (times h these ≤ times h those))
          → (times h (k ∷ ks) ≡ 0) ⊎ (times h these ≤ times h those)
      by true o here f rest = absurd (let z : Some i ≡ None = rw o at e in cc)
      by false o true f rest = inr (within h k f o)
      by false o false f rest = rw f (rest (rw o at e))

  pub at_most : (h : Hole) → first_over these those ≡ None → times h these ≤ times h those
  at_most h e = grind (arith, not_over h these 1 e)

  -- where all stand equally often none is over
  pub none_over : (ks : List (Option Hole)) (i : ℕ) → ((h : Hole) → times h these ≡ times h those) → position_from (is_over these those) i ks ≡ None
  none_over [] i equal = refl
  none_over (None ∷ ks) i equal = none_over ks (i + 1) equal
  none_over (Some k ∷ ks) i equal = grind (arith, equal k, none_over ks (i + 1) equal)

-- they agree only where neither a row nor an entry is over
verdict_ok : (row entry : Option ℕ) → verdict row entry ≡ Ok tt → (row ≡ None) × (entry ≡ None)
verdict_ok None None e = (refl, refl)
verdict_ok None (Some entry) e = cc
verdict_ok (Some row) entry e = cc

agree_only_if : (list table : List ℤ) → checked list table ≡ Ok tt → EquallyOften list table
agree_only_if list table e h =
    let found = verdict_ok (first_over (table_holes table) (list_holes list)) (first_over (list_holes list) (table_holes table)) e in
    omega (arith, at_most (table_holes table) (list_holes list) h found.0, at_most (list_holes list) (table_holes table) h found.1)

agree_if : (list table : List ℤ) → EquallyOften list table → checked list table ≡ Ok tt
agree_if list table equal =
    rw (none_over (table_holes table) (list_holes list) (table_holes table) 1 equal, none_over (list_holes list) (table_holes table) (list_holes list) 1 (λ h. sym (equal h)))

pub agree_exactly_when : AgreeExactlyWhen
agree_exactly_when = record { only_if = agree_only_if; if = agree_if }
