-- Laws of `line_of`: words with one more at their end.
-- Assumes nothing.
use Rattle.std.specs.Prelude.{is_some}
use mathlib.Core.Path.{◌≡◌, refl}
use mathlib.Core.Bool.{Bool, true, false, not, cond, ◌&&◌, ◌||◌, and-false}
use mathlib.Core.List.{List, [], ◌∷◌, ◌++◌}
use Prim.Native.Nat.{◌+◌, ◌≤◌}
use native.Mathlib.Omega.{arith}
use lib.Dec.{eqb}
use borrow.Author.Tests.{eqb-true}
use Rattle.aries.specs.Letters.{letter_a, letter_g, letter_n}
use Rattle.aries.specs.Test.{among, is_empty}
use Rattle.aries.specs.Words.{LetterWord}
use Rattle.aries.specs.ByLetter.{is_plain, is_measure, has, by_letter}
use Rattle.aries.specs.Forms.{is_pattern_code, in_place, in_places}
use Rattle.words.specs.Line.{others_in, line_of, is_out_of_place, with_word}
use Rattle.words.proofs.ByLetter.{by_letter_more, in_places_more}

pub others_more :
    (ws : List LetterWord) (r : LetterWord)
    → others_in (ws ++ r ∷ []) ≡ others_in ws + cond (among (letter_n ∷ letter_g ∷ []) r.letter) 0 1
others_more [] r = omega arith
others_more (w ∷ ws) r = omega (arith, others_more ws r)

-- at most one is counted
pub others_few : (ws : List LetterWord) (r : LetterWord) → others_in (ws ++ r ∷ []) ≤ others_in ws + 1
others_few ws r = rw (others_more ws r) (go (among (letter_n ∷ letter_g ∷ []) r.letter))
  where
    go : (t : Bool) → others_in ws + cond t 0 1 ≤ others_in ws + 1
    go true = omega arith
    go false = omega arith

begun_more : (ws : List LetterWord) (r : LetterWord) → is_empty (ws ++ r ∷ []) ≡ false
begun_more [] r = refl
begun_more (w ∷ ws) r = refl

not_and : (a b : Bool) → not (a && b) ≡ (not a || not b)
not_and true b = refl
not_and false b = refl

-- another G is out of its place beside a code, or with a sign or a point
code_out : (p c : Bool) → (c || not p) ≡ not ((p && not c) && true)
code_out true true = refl
code_out true false = refl
code_out false true = refl
code_out false false = refl

-- N, behind any word; before the first word it does not stand
number_out :
    (ws : List LetterWord)
    → not (is_empty ws) ≡ not (not (has (by_letter ws).letters letter_n) && (is_empty ws && true))
unfolding by_letter
number_out [] = refl
number_out (w ∷ ws) = simp and-false

-- any other letter, where it stands already, and A behind the code of a pattern
other_out : (h a p : Bool) → (h || (a && p)) ≡ not (not h && ((not a || not p) && true))
other_out true a p = refl
other_out false true true = refl
other_out false true false = refl
other_out false false p = refl

not_none : (t : Bool) → t ≡ not (not t)
not_none true = refl
not_none false = refl

module _ (ws : List LetterWord) (r : LetterWord) where
  -- a word is out of its place where it is not in it
  out : is_out_of_place (line_of ws) r.letter r.word ≡ not (in_place ws r)
  unfolding line_of in_place
  out = go (eqb r.letter letter_g) (eqb r.letter letter_n) (is_measure r.word) refl refl refl
    where
      go :
          (g n m : Bool) → eqb r.letter letter_g ≡ g → eqb r.letter letter_n ≡ n → is_measure r.word ≡ m
          → is_out_of_place (line_of ws) r.letter r.word ≡ not (in_place ws r)
      go true n true e f h = simp (eqb-true r.letter letter_g e, h) (not_none (is_some (by_letter ws).measure))
      go true n false e f h = simp (eqb-true r.letter letter_g e, h) (code_out (is_plain r.word) (is_some (by_letter ws).code))
      go false true m e f h = simp (eqb-true r.letter letter_n f) (number_out ws)
      go false false m e f h =
          simp (e, f) (other_out (has (by_letter ws).letters r.letter) (eqb r.letter letter_a) (is_pattern_code (by_letter ws).code))

  -- the line with a word more
  pub line_more : with_word (line_of ws) r.letter r.word ≡ line_of (ws ++ r ∷ [])
  unfolding line_of
  line_more = simp (by_letter_more ws r, others_more ws r, begun_more ws r, in_places_more ws r, not_and (in_places ws) (in_place ws r), ← out)
