-- Laws of `letters_of`: a word in its place.
use Rattle.std.specs.Prelude.{None, Some, Option, option_map, is_some}
use mathlib.Core.Path.{◌≡◌, refl, ap, ◌∙◌}
use mathlib.Core.List.{List, [], ◌∷◌}
use Prim.Native.Nat.{ℕ, zero, suc, ◌≤◌, ◌<◌}
use native.Mathlib.Nat.{not-suc-le-zero}
use native.Mathlib.Omega.{arith}
use lib.IntN.{ℤ, pos}
use lib.ListN.{length, get_or, set, drop}
use Rattle.aries.specs.declared.word.Word.{Word}
use Rattle.aries.specs.declared.word.Marks.{Marks}
use Rattle.aries.specs.Marks.{word_with, letters_of}

past_first : {A : Type 0} (l : List A) (i : ℕ) (d : A) → get_or (drop 1 l) i d ≡ get_or l (suc i) d
past_first [] i d = refl
past_first (x ∷ l) i d = refl

pub letters_at :
    (ms : List (Option Marks)) (ns : List ℤ) (i : ℕ)
    → get_or (letters_of ms ns) i None ≡ option_map (word_with (get_or ns i (pos 0))) (get_or ms i None)
letters_at [] ns i = refl
letters_at (m ∷ ms) ns zero = refl
letters_at (m ∷ ms) ns (suc i) =
    letters_at ms (drop 1 ns) i ∙ ap (λ (n : ℤ). option_map (word_with n) (get_or ms i None)) (past_first ns i (pos 0))

-- whether there is one
pub letters_has : (ms : List (Option Marks)) (ns : List ℤ) (i : ℕ) → is_some (get_or (letters_of ms ns) i None) ≡ is_some (get_or ms i None)
letters_has ms ns i = ap is_some (letters_at ms ns i) ∙ go (get_or ms i None)
  where
    go : (o : Option Marks) → is_some (option_map (word_with (get_or ns i (pos 0))) o) ≡ is_some o
    go None = refl
    go (Some m) = refl

pub letters_set :
    (ms : List (Option Marks)) (ns : List ℤ) (i : ℕ) (m : Marks) (n : ℤ) → i < length ns
    → letters_of (set ms i (Some m)) (set ns i n) ≡ set (letters_of ms ns) i (Some (word_with n m))
letters_set [] ns i m n h = refl
letters_set (k ∷ ms) [] i m n h = absurd (not-suc-le-zero h)
letters_set (k ∷ ms) (j ∷ ns) zero m n h = refl
letters_set (k ∷ ms) (j ∷ ns) (suc i) m n h = ap (λ (vs : List (Option Word)). option_map (word_with j) k ∷ vs) (letters_set ms ns i m n (omega arith))

-- past the last place there is none
pub letters_past : (ms : List (Option Marks)) (ns : List ℤ) (i : ℕ) (o : Option Word) → length ms ≤ i → set (letters_of ms ns) i o ≡ letters_of ms ns
letters_past [] ns i o h = refl
letters_past (m ∷ ms) ns zero o h = absurd (not-suc-le-zero h)
letters_past (m ∷ ms) ns (suc i) o h = ap (λ (vs : List (Option Word)). option_map (word_with (get_or ns 0 (pos 0))) m ∷ vs) (letters_past ms (drop 1 ns) i o (omega arith))
