-- Laws of hits made twice.
use Rattle.std.proofs.Common.{◌≡◌, ℕ, zero, suc, ◌<◌, List, [], ◌∷◌, ◌++◌, map, length, get_or, take, Option, Some, None, MatchOption, sym, refl, ap, ◌∙◌, arith, append_assoc}
use Rattle.std.proofs.lemmas.List.{append-nil}
use Rattle.drawings.specs.declared.hole.Hole.{Hole}
use Rattle.drawings.specs.declared.Repeat.{Repeat}
use Rattle.drawings.specs.Repeats.{repeat_of, repeat_after}

module _ {A : Type 0} (hole_of : A → Option Hole) (default : A) where
  -- what the place past i others repeats of those before it
  abbrev pub repeat_at : List (Option Hole) → List A → ℕ → Option Repeat
  repeat_at before places i = repeat_of (before ++ map hole_of (take i places)) (hole_of (get_or places i default))

  -- the first place that repeats one before it is past i others, which repeat none
  abbrev pub IsFirstRepeat : List (Option Hole) → List A → Option Repeat → Type 0
  IsFirstRepeat before places r =
      MatchOption r ((i : ℕ) → i < length places → repeat_at before places i ≡ None)
      (λ s. (i : ℕ) × (i < length places) × (repeat_at before places i ≡ Some s) × ((j : ℕ) → j < i → repeat_at before places j ≡ None))

  next : (before : List (Option Hole)) (p : A) (places : List A) (i : ℕ) → repeat_at (before ++ hole_of p ∷ []) places i ≡ repeat_at before (p ∷ places) (suc i)
  next before p places i = ap (λ b. repeat_of b (hole_of (get_or places i default))) (append_assoc before (hole_of p ∷ []) (map hole_of (take i places)))

  first : (before : List (Option Hole)) (p : A) (places : List A) (o : Option Repeat) → repeat_at before (p ∷ places) 0 ≡ o → repeat_of before (hole_of p) ≡ o
  first before p places o e = ap (λ b. repeat_of b (hole_of p)) (sym (append-nil before)) ∙ e

  -- such a place is the one that the definition finds
  pub repeat_after_from : (before : List (Option Hole)) (places : List A) (r : Option Repeat) → IsFirstRepeat before places r → repeat_after before (map hole_of places) ≡ r
  repeat_after_from before [] None h = refl
  repeat_after_from before [] (Some s) h = absurd (omega arith)
  repeat_after_from before (p ∷ places) None h =
      rw (first before p places None (h 0 (omega arith)))
      (repeat_after_from (before ++ hole_of p ∷ []) places None (λ i w. next before p places i ∙ h (suc i) (omega arith)))
  repeat_after_from before (p ∷ places) (Some s) (zero, w, e, none) = rw (first before p places (Some s) e)
  repeat_after_from before (p ∷ places) (Some s) (suc i, w, e, none) =
      rw (first before p places None (none 0 (omega arith)))
      (repeat_after_from (before ++ hole_of p ∷ []) places (Some s)
      (i, omega arith, next before p places i ∙ e, λ j below. next before p places j ∙ none (suc j) (omega arith)))
