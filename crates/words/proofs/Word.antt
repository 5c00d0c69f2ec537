-- Laws of `number` and `word`: a word by its letter, the byte where its sign is due and its number; what holds of both;
-- and what the code answers of them.
-- Assumes nothing.
use Rattle.std.specs.Prelude.{None, Option, Some, option_map}
use mathlib.Core.Path.{◌≡◌, refl, ap, ◌∙◌, subst}
use mathlib.Core.Bool.{Bool, true, false, cond}
use mathlib.Core.List.{List}
use Prim.Native.Nat.{ℕ, ◌+◌, ◌-◌, ◌≤◌, ◌<◌}
use native.Mathlib.Nat.{add-zero, add_assoc}
use native.Mathlib.Omega.{arith}
use lib.Dec.{eqb, leb, lit<}
use lib.IntN.{nat_abs}
use lib.ListN.{length, get_or, drop, length-drop}
use lib.Seq.{get_or-drop, drop-drop}
use borrow.Author.Tests.{leb-true}
use Rattle.aries.specs.Text.{minus, point, is_capital}
use Rattle.aries.specs.Words.{Digits, LetterWord, digits, is_sign, hundredths, front_size, word_of, word}
use Rattle.signed.proofs.Integers.{abs_with_sign}
use Rattle.words.specs.declared.Number.{Number}
use Rattle.words.specs.declared.Reading.{Reading}
use Rattle.words.specs.Reading.{number_of, number, reading_of, reading_at}
use Rattle.words.proofs.Bytes.{test_inside, front_inside}
use Rattle.words.proofs.Numerals.{Bounded, digits_bounded, below_power, hundredths-small}

-- ---- a number

-- at a place, by its parts
pub number_at :
    (t : List ℕ) (from : ℕ) (whole : Digits) → whole ≡ digits 6 0 0 (drop from t)
    → number (drop from t)
    ≡ number_of whole (get_or t (from + whole.count) 0) (digits 2 0 0 (drop (from + whole.count + 1) t))
unfolding number
number_at t from whole e = simp (get_or-drop, drop-drop, ← e, ← add_assoc)

-- what holds of a number that was read: it takes a byte at least and none past the end, and its value is below 10^6
pub record Sound (bs : List ℕ) (n : Number) : Type 0 where
  pub some_bytes : 0 < n.size
  pub inside : n.size ≤ length bs
  pub small : n.value < 1000000

module _ (bs : List ℕ) where
  abbrev whole : Digits
  whole = digits 6 0 0 bs

  abbrev stop : ℕ
  stop = get_or bs whole.count 0

  abbrev decimals : Digits
  decimals = digits 2 0 0 (drop (whole.count + 1) bs)

  pub number_sound : (n : Number) → number bs ≡ Some n → Sound bs n
  unfolding number
  number_sound n = go (leb 1 whole.count) (eqb stop point) (leb whole.count 4) refl refl refl
    where
      w : Bounded 6 0 bs whole
      w = digits_bounded 6 0 0 bs (lit< tt)

      d : Bounded 2 0 (drop (whole.count + 1) bs) decimals
      d = digits_bounded 2 0 0 (drop (whole.count + 1) bs) (lit< tt)

      go :
          (p q r : Bool) → leb 1 whole.count ≡ p → eqb stop point ≡ q → leb whole.count 4 ≡ r
          → number bs ≡ Some n → Sound bs n
      go false q r e f g s = let z = simp e at s in cc
      go true false r e f g s =
          let z = simp (e, f) at s in
          let m : record { value = whole.value; pointed = false; size = whole.count } ≡ n = cc in
          subst (Sound bs) m
          (record {
            some_bytes = leb-true 1 whole.count e;
            inside = omega (arith, w.inside);
            small = below_power whole.value whole.count 6 w.small (omega (arith, w.few));
          })
      go true true false e f g s = let z = simp (e, f, g) at s in cc
      go true true true e f g s =
          let z = simp (e, f, g) at s in
          let m : record { value = hundredths whole decimals; pointed = true; size = whole.count + 1 + decimals.count } ≡ n = cc in
          let h : whole.count < length bs = test_inside (λ (b : ℕ). eqb b point) bs whole.count refl f in
          let k : whole.count ≤ 4 = leb-true whole.count 4 g in
          subst (Sound bs) m
          (record {
            some_bytes = omega arith;
            inside = omega (arith, d.inside, length-drop (whole.count + 1) bs);
            small = hundredths-small whole decimals (below_power whole.value whole.count 4 w.small k) d.small (omega (arith, d.few));
          })

-- a number at a place of a text
pub number_fits :
    (t : List ℕ) (from : ℕ) (n : Number) → from ≤ length t → number (drop from t) ≡ Some n
    → (from + n.size ≤ length t) × (n.value < 1000000)
number_fits t from n h e =
    let s = number_sound (drop from t) n e in
    (omega (arith, s.inside, length-drop from t), s.small)

-- ---- a word by its number

-- from its letter, the byte where its sign is due, how many bytes these take, and its number
abbrev pub word_by : ℕ → ℕ → ℕ → Number → LetterWord
word_by letter sign front n =
    record { letter = letter; word = word_of (is_sign sign) (eqb sign minus) n.pointed n.value; size = front + n.size }

abbrev pub read_of : ℕ → ℕ → ℕ → Option Number → Option LetterWord
read_of letter sign front o = cond (is_capital letter) (option_map (word_by letter sign front) o) None

module _ (bs : List ℕ) where
  abbrev first : Digits
  first = digits 6 0 0 (drop (front_size bs) bs)

  -- the byte behind its first digits, and the digits behind that
  abbrev behind : ℕ
  behind = get_or bs (front_size bs + first.count) 0

  abbrev second : Digits
  second = digits 2 0 0 (drop (front_size bs + first.count + 1) bs)

  pub word_number : word bs ≡ read_of (get_or bs 0 0) (get_or bs 1 0) (front_size bs) (number (drop (front_size bs) bs))
  unfolding word
  word_number =
      rw (number_at bs (front_size bs) first refl)
      (go (is_capital (get_or bs 0 0)) (leb 1 first.count) (eqb behind point) (leb first.count 4) refl refl refl refl)
    where
      go :
          (a p q r : Bool) → is_capital (get_or bs 0 0) ≡ a → leb 1 first.count ≡ p → eqb behind point ≡ q → leb first.count 4 ≡ r
          → word bs ≡ read_of (get_or bs 0 0) (get_or bs 1 0) (front_size bs) (number_of first behind second)
      go false p q r d e f g = simp d
      go true false q r d e f g = simp (d, e)
      go true true false r d e f g = simp (d, e, f)
      go true true true false d e f g = simp (d, e, f, g)
      go true true true true d e f g = simp (d, e, f, g, add_assoc)

-- what holds of a word that was read from a line: its letter, its size and its value
pub record Formed (bs : List ℕ) (r : LetterWord) : Type 0 where
  pub capital : is_capital r.letter ≡ true
  -- it takes a byte at least, and none past the end
  pub some_bytes : 0 < r.size
  pub inside : r.size ≤ length bs
  pub small : nat_abs r.word.value ≤ 999999

module _ (bs : List ℕ) (r : LetterWord) (e : word bs ≡ Some r) where
  pub formed : Formed bs r
  formed = go (is_capital (get_or bs 0 0)) (number (drop (front_size bs) bs)) refl refl
    where
      go : (c : Bool) (o : Option Number) → is_capital (get_or bs 0 0) ≡ c → number (drop (front_size bs) bs) ≡ o → Formed bs r
      go false o f g = let z : word bs ≡ None = word_number bs ∙ simp f in cc
      go true None f g = let z : word bs ≡ None = word_number bs ∙ simp (f, g) in cc
      go true (Some n) f g =
          let z : word bs ≡ Some (word_by (get_or bs 0 0) (get_or bs 1 0) (front_size bs) n) = word_number bs ∙ simp (f, g) in
          let m : word_by (get_or bs 0 0) (get_or bs 1 0) (front_size bs) n ≡ r = cc in
          let s = number_sound (drop (front_size bs) bs) n g in
          subst (Formed bs) m
          (record {
            capital = f;
            some_bytes = omega (arith, s.some_bytes);
            inside = omega (arith, s.inside, front_inside bs 0 (front_size bs) f refl, length-drop (front_size bs) bs);
            small = rw (abs_with_sign (eqb (get_or bs 1 0) minus) n.value) (omega (arith, s.small));
          })

-- what holds of a word wherever it was read
pub record WellFormed (r : LetterWord) : Type 0 where
  pub capital : is_capital r.letter ≡ true
  pub small : nat_abs r.word.value ≤ 999999

pub well_formed : (bs : List ℕ) (r : LetterWord) → word bs ≡ Some r → WellFormed r
well_formed bs r e = let f = formed bs r e in record { capital = f.capital; small = f.small }

-- ---- the code's answer

module _ (t : List ℕ) (at : ℕ) where
  pub word_at :
      (front : ℕ) → front ≡ cond (is_sign (get_or t (at + 1) 0)) 2 1
      → word (drop at t) ≡ read_of (get_or t at 0) (get_or t (at + 1) 0) front (number (drop (at + front) t))
  word_at front f = word_number (drop at t) ∙ simp (get_or-drop, drop-drop, ← f, add-zero)

  -- no letter, no word
  pub reading_none : is_capital (get_or t at 0) ≡ false → None ≡ reading_at at (word (drop at t))
  reading_none e = rw (word_at (cond (is_sign (get_or t (at + 1) 0)) 2 1) refl) (simp e)

  -- a letter, and then a number or none
  module _
      (letter sign front : ℕ) (o : Option Number) (l : letter ≡ get_or t at 0) (s : sign ≡ get_or t (at + 1) 0)
      (m : o ≡ number (drop (at + front) t)) (c : is_capital (get_or t at 0) ≡ true)
      (f : front ≡ cond (is_sign (get_or t (at + 1) 0)) 2 1)
    where
      pub reading_some : option_map (reading_of letter sign (at + front)) o ≡ reading_at at (word (drop at t))
      reading_some = rw (word_at front f, ← l, ← s, ← m) (go o)
        where
          capital : is_capital letter ≡ true
          capital = ap is_capital l ∙ c

          go : (o : Option Number) → option_map (reading_of letter sign (at + front)) o ≡ reading_at at (read_of letter sign front o)
          go None = simp capital
          go (Some n) = simp (capital, add_assoc)

-- ---- what an answer says of the word

-- the word, by the code's answer
abbrev pub read_as : ℕ → Reading → LetterWord
read_as at r = record { letter = r.letter; word = r.word; size = r.end - at }

pub answer_none : (at : ℕ) (o : Option LetterWord) → None ≡ reading_at at o → o ≡ None
answer_none at None e = refl
answer_none at (Some v) e = cc

-- a word, and the place past it
pub answer_some :
    (at : ℕ) (o : Option LetterWord) (r : Reading) → Some r ≡ reading_at at o → (o ≡ Some (read_as at r)) × (at ≤ r.end)
answer_some at None r e = cc
answer_some at (Some v) r e =
    let q : r ≡ record { letter = v.letter; word = v.word; end = at + v.size } = cc in
    let s : at + v.size - at ≡ v.size = omega arith in
    rw q (rw s, omega arith)
