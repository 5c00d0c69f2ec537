-- Laws of words: those of a line one by one, and what holds of every word of a block by letter.
use Rattle.std.specs.Prelude.{None, Option, Some}
use mathlib.Core.Path.{◌≡◌, refl}
use mathlib.Core.Bool.{Bool, true, false}
use mathlib.Core.List.{List, [], ◌∷◌, foldl}
use Prim.Native.Nat.{ℕ, zero, suc}
use lib.Dec.{eqb}
use lib.ListN.{get_or, set, replicate, drop}
use Rattle.aries.specs.declared.word.Word.{Word}
use Rattle.aries.specs.Letters.{letter_g, index_of}
use Rattle.aries.specs.Words.{LetterWord, word, front_words}
use Rattle.aries.specs.ByLetter.{Letters, no_words, is_measure, added, by_letter}
use Rattle.aries.specs.declared.word.Words.{Words}

-- ---- The words of a line

-- no word follows, or one does
pub front_none : (n : ℕ) (bs : List ℕ) → word bs ≡ None → front_words n bs ≡ []
unfolding front_words
front_none zero bs e = refl
front_none (suc n) bs e = rw (e, front_words)

pub front_some :
    (n : ℕ) (bs : List ℕ) (r : LetterWord) → word bs ≡ Some r
    → front_words (suc n) bs ≡ r ∷ front_words n (drop r.size bs)
unfolding front_words
front_some n bs r e = rw (e, front_words)

-- words that all have a property
abbrev pub AllWords : (LetterWord → Type 0) → List LetterWord → Type 0
AllWords P [] = Unit {0}
AllWords P (r ∷ rs) = P r × AllWords P rs

-- such are the words of a line, where every word that is read has it
pub front_all :
    (P : LetterWord → Type 0) → ((bs : List ℕ) (r : LetterWord) → word bs ≡ Some r → P r)
    → (n : ℕ) (bs : List ℕ) → AllWords P (front_words n bs)
unfolding front_words
front_all P read zero bs = tt
front_all P read (suc n) bs = go (word bs) refl (λ r. front_all P read n (drop r.size bs))
  where
    go :
        (o : Option LetterWord) → word bs ≡ o → ((r : LetterWord) → AllWords P (front_words n (drop r.size bs)))
        → AllWords P (front_words (suc n) bs)
    go None e rest = rw (front_none (suc n) bs e) tt
    go (Some r) e rest = rw (front_some n bs r e) (read bs r e, rest r)

-- ---- The words of a block by letter

-- each has a property, by its place
abbrev pub EachWord : (Option Word → Type 0) → Letters → Type 0
EachWord P w = (i : ℕ) → P (get_or w i None)

module _ (P : Option Word → Type 0) (absent : P None) where
  -- a list of absent words, and one with a word in place of another
  each-replicate : (n : ℕ) → EachWord P (replicate n None)
  each-replicate zero i = absent
  each-replicate (suc n) zero = absent
  each-replicate (suc n) (suc i) = each-replicate n i

  pub each_set : (w : Letters) (j : ℕ) (v : Option Word) → P v → EachWord P w → EachWord P (set w j v)
  each_set [] j v c h i = absent
  each_set (u ∷ w) zero v c h zero = c
  each_set (u ∷ w) zero v c h (suc i) = h (suc i)
  each_set (u ∷ w) (suc j) v c h zero = h zero
  each_set (u ∷ w) (suc j) v c h (suc i) = each_set w j v c (λ i. h (suc i)) i

  module _ {Q : LetterWord → Type 0} (read : (r : LetterWord) → Q r → P (Some r.word)) where
    -- with a word more that was read, and with many
    added-each : (w : Words) (r : LetterWord) → Q r → EachWord P w.letters → EachWord P (added w r.letter r.word).letters
    unfolding added
    added-each w r q h = go (eqb r.letter letter_g) (is_measure r.word) refl refl
      where
        go : (g m : Bool) → eqb r.letter letter_g ≡ g → is_measure r.word ≡ m → EachWord P (added w r.letter r.word).letters
        go true true e f = simp (e, f) h
        go true false e f = simp (e, f) h
        go false m e f = simp e (each_set w.letters (index_of r.letter) (Some r.word) (read r q) h)

    all-each : (w : Words) → EachWord P w.letters → (ws : List LetterWord) → AllWords Q ws → EachWord P (foldl (λ v r. added v r.letter r.word) w ws).letters
    all-each w h [] q = h
    all-each w h (r ∷ rs) q = all-each (added w r.letter r.word) (added-each w r q.0 h) rs q.1

    pub by_letter-each : (ws : List LetterWord) → AllWords Q ws → EachWord P (by_letter ws).letters
    unfolding by_letter
    by_letter-each ws q = all-each no_words (each-replicate 26) ws q
