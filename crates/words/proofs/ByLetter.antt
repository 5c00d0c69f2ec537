-- Laws of `by_letter` and `in_places`: words with one more at their end.
-- Assumes nothing.
use Rattle.std.specs.Prelude.{Some}
use mathlib.Core.Path.{◌≡◌, refl, sym, ap, ◌∙◌}
use mathlib.Core.Bool.{Bool, true, false, ◌&&◌, and-true, and_assoc}
use mathlib.Core.List.{List, [], ◌∷◌, ◌++◌, append-nil, append_assoc, foldl-append}
use lib.ListN.{set}
use borrow.Author.Tests.{ne_eqb}
use Rattle.aries.specs.Letters.{letter_g, index_of}
use Rattle.aries.specs.Words.{LetterWord}
use Rattle.aries.specs.ByLetter.{no_words, is_measure, added, by_letter}
use Rattle.aries.specs.declared.word.Words.{Words}
use Rattle.aries.specs.Forms.{in_place, in_place_after, in_places}

-- no words yet
pub by_letter_none : no_words ≡ by_letter []
unfolding by_letter
by_letter_none = refl

-- ---- A word more

module _ (ws : List LetterWord) (r : LetterWord) where
  pub by_letter_more : by_letter (ws ++ r ∷ []) ≡ added (by_letter ws) r.letter r.word
  unfolding by_letter
  by_letter_more = foldl-append (λ (w : Words) (r : LetterWord). added w r.letter r.word) no_words ws (r ∷ [])

  -- a G has no place among the letters
  pub by_letter_g : r.letter ≡ letter_g → (by_letter (ws ++ r ∷ [])).letters ≡ (by_letter ws).letters
  unfolding added
  by_letter_g g = ap (λ (w : Words). w.letters) by_letter_more ∙ go (is_measure r.word) refl
    where
      go : (m : Bool) → is_measure r.word ≡ m → (added (by_letter ws) r.letter r.word).letters ≡ (by_letter ws).letters
      go true e = simp (g, e)
      go false e = simp (g, e)

  -- every other letter has
  pub by_letter-set :
      (r.letter ≡ letter_g → ⊥)
      → (by_letter (ws ++ r ∷ [])).letters ≡ set (by_letter ws).letters (index_of r.letter) (Some r.word)
  unfolding added
  by_letter-set g = ap (λ (w : Words). w.letters) by_letter_more ∙ simp (ne_eqb r.letter letter_g g)

after_more :
    (before ws : List LetterWord) (r : LetterWord)
    → in_place_after before (ws ++ r ∷ []) ≡ (in_place_after before ws && in_place (before ++ ws) r)
unfolding in_place_after
after_more before [] r =
    and-true (in_place before r) ∙ ap (λ (b : List LetterWord). in_place b r) (sym (append-nil before))
after_more before (w ∷ ws) r =
    ap (◌&&◌ (in_place before w)) (after_more (before ++ w ∷ []) ws r)
    ∙ rw (append_assoc before (w ∷ []) ws) (sym (and_assoc (in_place before w) (in_place_after (before ++ w ∷ []) ws) (in_place (before ++ w ∷ ws) r)))

-- they are in their places where those before are and the last one is
pub in_places_more :
    (ws : List LetterWord) (r : LetterWord) → in_places (ws ++ r ∷ []) ≡ (in_places ws && in_place ws r)
unfolding in_places
in_places_more ws r = after_more [] ws r
