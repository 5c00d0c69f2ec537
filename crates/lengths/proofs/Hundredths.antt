-- Laws of words in hundredths: one letter and several, words that stay as they are, and that all are sized where none passes the
-- limit.
use Rattle.std.specs.Prelude.{None, Some, Option, option_map}
use mathlib.Core.Path.{◌≡◌, refl, sym, ap, ap₂, ◌∙◌}
use mathlib.Core.Bool.{Bool, true, false, not, ◌&&◌, and-true, and_assoc}
use mathlib.Core.List.{List, [], ◌∷◌, ◌++◌}
use Prim.Native.Nat.{ℕ, zero, suc, ◌<◌, ◌≤◌}
use native.Mathlib.Nat.{not-suc-le-zero}
use native.Mathlib.Omega.{arith}
use lib.Dec.{eqb}
use lib.IntN.{pos, nat_abs, ◌*ℤ◌}
use lib.ListN.{length, get_or, set, take}
use lib.Seq.{set-get_or, get_or-set_other}
use borrow.Author.Tests.{eqb-false, leb-true, le-leb, not-true}
use Rattle.aries.specs.declared.block.Kind.{Kind}
use Rattle.aries.specs.declared.block.Kind.TheVariants.{G26, G28, G29, G36, G37, G50, G70, G72, G75, G76, G92, G93, G98, Position, Lone, LetterM, LetterB, LetterU, LetterV, LetterW, G66, G73}
use Rattle.aries.specs.declared.reader.Setting.{Setting}
use Rattle.aries.specs.declared.reader.Setting.TheVariants.{Hundredths, Millimetres}
use Rattle.aries.specs.declared.word.Word.{Word}
use Rattle.aries.specs.Letters.{index_of}
use Rattle.aries.specs.Test.{every}
use Rattle.aries.specs.Text.{bytes}
use Rattle.aries.specs.ByLetter.{Letters, at, absent_or}
use Rattle.aries.specs.Judging.{farthest, is_near}
use Rattle.signed.proofs.Tests.{and_intro, and_left, and_right}
use Rattle.aries.specs.Numbers.{length_of, with_value, lengths_of, word_in_hundredths, letters_in_hundredths, in_hundredths, lengths_fit, is_ranged}
use Rattle.aries.proofs.Settings.{pointed_alike, hundredths-written}
use Rattle.aries.proofs.Words.{each_set}
use Rattle.lengths.specs.Sized.{Sized}
use Rattle.lengths.specs.Hundredths.{fits, is_other, is_apart}
use Rattle.lengths.proofs.Sized.{SizedWord, by_place}

-- ---- One word

-- a word with a point stays, and so does an absent one
pub one_stays :
    (w : Letters) (letter : ℕ) → option_map (word_in_hundredths Millimetres) (at w letter) ≡ at w letter
    → letters_in_hundredths Millimetres w (letter ∷ []) ≡ w
one_stays w letter e = ap (set w (index_of letter)) e ∙ set-get_or w (index_of letter) None

pub pointed_stays : (v : Word) → v.pointed ≡ true → word_in_hundredths Millimetres v ≡ v
pointed_stays v e = ap (with_value v) (pointed_alike Millimetres v e)

-- without one it is multiplied
pub length_multiplied : (v : Word) → v.pointed ≡ false → length_of Millimetres v ≡ pos 100 *ℤ v.value
unfolding length_of
length_multiplied v e = simp e

-- ---- Several words

pub hundredths_snoc :
    (s : Setting) (w : Letters) (ls : List ℕ) (l : ℕ)
    → letters_in_hundredths s w (ls ++ l ∷ []) ≡ letters_in_hundredths s (letters_in_hundredths s w ls) (l ∷ [])
hundredths_snoc s w [] l = refl
hundredths_snoc s w (m ∷ ls) l = hundredths_snoc s (letters_in_hundredths s w (m ∷ [])) ls l

pub every_snoc : {A : Type 0} (f : A → Bool) (ls : List A) (l : A) → every f (ls ++ l ∷ []) ≡ (every f ls && f l)
every_snoc f [] l = and-true (f l)
every_snoc f (m ∷ ls) l = ap (◌&&◌ (f m)) (every_snoc f ls l) ∙ sym (and_assoc (f m) (every f ls) (f l))

-- ---- Other words

-- another letter's word stays
pub others_stay :
    (s : Setting) (ls : List ℕ) (w : Letters) (b : ℕ) → is_other ls b ≡ true
    → at (letters_in_hundredths s w ls) b ≡ at w b
others_stay s [] w b e = refl
others_stay s (l ∷ ls) w b e =
    others_stay s ls (letters_in_hundredths s w (l ∷ [])) b (and_right other _ e)
    ∙ get_or-set_other w (index_of l) (index_of b) (option_map (word_in_hundredths s) (at w l)) None (eqb-false (index_of b) (index_of l) (not-true (eqb (index_of b) (index_of l)) (and_left other _ e)))
  where
    other : Bool
    other = not (eqb (index_of b) (index_of l))

-- what every element passes, one passes
every_at : {A : Type 0} (f : A → Bool) (ls : List A) (k : ℕ) (d : A) → every f ls ≡ true → k < length ls → f (get_or ls k d) ≡ true
every_at f [] k d e h = absurd (not-suc-le-zero h)
every_at f (l ∷ ls) zero d e h = and_left (f l) (every f ls) e
every_at f (l ∷ ls) (suc k) d e h = every_at f ls k d (and_right (f l) (every f ls) e) (omega arith)

-- where no letter stands twice, each is none of those before it
pub apart_before : (ls : List ℕ) (k : ℕ) → is_apart ls ≡ true → k < length ls → is_other (take k ls) (get_or ls k 0) ≡ true
apart_before ls zero e h = refl
apart_before [] (suc k) e h = absurd (not-suc-le-zero h)
apart_before (l ∷ ls) (suc k) e h =
    and_intro _ _
    (every_at (λ (m : ℕ). not (eqb (index_of m) (index_of l))) ls k 0 (and_left others _ e) (omega arith))
    (apart_before ls k (and_right others _ e) (omega arith))
  where
    others : Bool
    others = every (λ (m : ℕ). not (eqb (index_of m) (index_of l))) ls

-- ---- Sized words

-- one with a point can't pass the limit
pub pointed_near : (v : Word) → nat_abs v.value ≤ 999999 → v.pointed ≡ true → is_near (length_of Millimetres v) ≡ true
pointed_near v sized e = rw (pointed_alike Millimetres v e) (le-leb (nat_abs v.value) farthest sized)

-- one that does not pass it
word_sized :
    (o : Option Word) → absent_or (λ (v : Word). is_near (length_of Millimetres v)) o ≡ true
    → SizedWord (option_map (word_in_hundredths Millimetres) o)
word_sized None near = omega arith
word_sized (Some v) near = leb-true (nat_abs (length_of Millimetres v)) farthest near

-- the limit of one letter is not that of another
limits_stay :
    (l : ℕ) (ls : List ℕ) (w : Letters) → every (λ m. not (eqb (index_of m) (index_of l))) ls ≡ true
    → every (fits (letters_in_hundredths Millimetres w (l ∷ []))) ls ≡ every (fits w) ls
limits_stay l [] w e = refl
limits_stay l (m ∷ ms) w e =
    ap₂ ◌&&◌
    (ap (absent_or (λ (v : Word). is_near (length_of Millimetres v))) (others_stay Millimetres (l ∷ []) w m (simp (and_left (not (eqb (index_of m) (index_of l))) _ e))))
    (limits_stay l ms w (and_right (not (eqb (index_of m) (index_of l))) _ e))

letters_sized :
    (ls : List ℕ) (w : Letters) → is_apart ls ≡ true → Sized w → every (fits w) ls ≡ true
    → Sized (letters_in_hundredths Millimetres w ls)
letters_sized [] w a sized e = sized
letters_sized (l ∷ ls) w a sized e =
    letters_sized ls (letters_in_hundredths Millimetres w (l ∷ [])) (and_right others _ a)
    (record { each = λ letter. each_set SizedWord (omega arith) w (index_of l) (option_map (word_in_hundredths Millimetres) (at w l)) (word_sized (at w l) (and_left first _ e)) (by_place w sized) (index_of letter) })
    (limits_stay l ls w (and_left others _ a) ∙ and_right first _ e)
  where
    others : Bool
    others = every (λ m. not (eqb (index_of m) (index_of l))) ls

    first : Bool
    first = fits w l

pub kinds_apart : (k : Kind) → is_apart (bytes (lengths_of k)) ≡ true
unfolding bytes
kinds_apart G26 = refl
kinds_apart G28 = refl
kinds_apart G29 = refl
kinds_apart G36 = refl
kinds_apart G37 = refl
kinds_apart G66 = refl
kinds_apart G50 = refl
kinds_apart G70 = refl
kinds_apart G72 = refl
kinds_apart G73 = refl
kinds_apart G75 = refl
kinds_apart G76 = refl
kinds_apart G92 = refl
kinds_apart G93 = refl
kinds_apart G98 = refl
kinds_apart Position = refl
kinds_apart Lone = refl
kinds_apart LetterM = refl
kinds_apart LetterB = refl
kinds_apart LetterU = refl
kinds_apart LetterV = refl
kinds_apart LetterW = refl

-- the two tests of 6
pub both_pass : (s : Setting) (k : Kind) (w h : Letters) → (lengths_fit s k w && is_ranged h k) ≡ true → (lengths_fit s k w ≡ true) × (is_ranged h k ≡ true)
both_pass s k w h e = (and_left (lengths_fit s k w) (is_ranged h k) e, and_right (lengths_fit s k w) (is_ranged h k) e)

-- where no length passes the limit
pub hundredths_sized : (s : Setting) (k : Kind) (w : Letters) → Sized w → lengths_fit s k w ≡ true → Sized (in_hundredths s k w)
unfolding lengths_fit in_hundredths
hundredths_sized Hundredths k w sized e = rw (hundredths-written k w) sized
hundredths_sized Millimetres k w sized e = letters_sized (bytes (lengths_of k)) w (kinds_apart k) sized e
