-- Words: their form and their values, and the words of a line in their order. (Document 01, "Text, words, units"; refusal 4.)
use Rattle.std.specs.Prelude.{Bool, true, false, cond, ◌&&◌, List, [], ◌∷◌, ℕ, zero, suc, ◌+◌, ◌-◌, ◌*◌, leb, eqb, length, get_or, drop, None, Option, Some}
use Rattle.signed.specs.Signed.{with_sign}
use Rattle.aries.specs.declared.word.Word.{Word}
use Rattle.aries.specs.Test.{among}
use Rattle.aries.specs.Text.{plus, minus, point, is_capital, is_digit}

-- digits read: their value and how many they are
pub record Digits : Type 0 where
  pub value : ℕ
  pub count : ℕ

-- the digits at the front of a line, at most so many, after those that are counted already
unfoldable pub digits : ℕ → ℕ → ℕ → List ℕ → Digits
digits zero value count bs = record { value = value; count = count }
digits (suc most) value count [] = record { value = value; count = count }
digits (suc most) value count (b ∷ bs) = elim (is_digit b) [
  | true ↦ digits most (value * 10 + (b - 48)) (suc count) bs
  | false ↦ record { value = value; count = count }
]

-- plus or minus
abbrev pub is_sign : ℕ → Bool
is_sign b = among (plus ∷ minus ∷ []) b

-- hundredths of a number with a point, from its digits before and after
abbrev pub hundredths : Digits → Digits → ℕ
hundredths whole decimals = whole.value * 100 + decimals.value * cond (eqb decimals.count 1) 10 1

-- a word that was read: its letter, the word itself, and how many bytes it takes
pub record LetterWord : Type 0 where
  pub letter : ℕ
  pub word : Word
  pub size : ℕ

-- a word by its sign, its point and its number
abbrev pub word_of : Bool → Bool → Bool → ℕ → Word
word_of signed negative pointed number = record { signed = signed; pointed = pointed; value = with_sign negative number }

-- a word without a point: 1 to 6 digits, front bytes before them
abbrev pub whole_word : List ℕ → ℕ → Digits → Option LetterWord
whole_word bs front whole =
    Some (record {
      letter = get_or bs 0 0;
      word = word_of (is_sign (get_or bs 1 0)) (eqb (get_or bs 1 0) minus) false whole.value;
      size = front + whole.count;
    })

-- a word with a point: 1 to 4 digits, the point, and 0 to 2 decimals
abbrev pub point_word : List ℕ → ℕ → Digits → Digits → Option LetterWord
point_word bs front whole decimals =
    cond (leb whole.count 4)
    (Some (record {
      letter = get_or bs 0 0;
      word = word_of (is_sign (get_or bs 1 0)) (eqb (get_or bs 1 0) minus) true (hundredths whole decimals);
      size = front + whole.count + 1 + decimals.count;
    }))
    None

-- the bytes before the digits: the letter, and the sign if there is one
abbrev pub front_size : List ℕ → ℕ
front_size bs = cond (is_sign (get_or bs 1 0)) 2 1

-- a word from its first digits, front bytes before them
abbrev pub word_from : List ℕ → ℕ → Digits → Option LetterWord
word_from bs front whole =
    cond (is_capital (get_or bs 0 0) && leb 1 whole.count)
    (cond (eqb (get_or bs (front + whole.count) 0) point)
    (point_word bs front whole (digits 2 0 0 (drop (front + whole.count + 1) bs)))
    (whole_word bs front whole))
    None

-- The word at the front of a line: a capital letter, an optional sign, then 1 to 6 digits, or 1 to 4 digits, a point
-- and 0 to 2 digits. What does not fit is left to the next word, which it cannot begin.
unfoldable pub word : List ℕ → Option LetterWord
unfolding digits
word bs = word_from bs (front_size bs) (digits 6 0 0 (drop (front_size bs) bs))

-- The words at the front of a line, in their order, up to the first that has not the form. A line has no more words than
-- bytes, which is what the first number counts.
unfoldable pub front_words : ℕ → List ℕ → List LetterWord
unfolding word
front_words zero bs = []
front_words (suc most) bs = elim (word bs) [ None ↦ [] | Some r ↦ r ∷ front_words most (drop r.size bs) ]

-- these words, of a whole line
abbrev pub formed_words : List ℕ → List LetterWord
formed_words line = front_words (length line) line

-- how many bytes words take
abbrev pub size_of : List LetterWord → ℕ
size_of [] = 0
size_of (r ∷ rs) = r.size + size_of rs

-- The words of a line; none where one has not the form, which is where those before it leave bytes over.
unfoldable pub words : List ℕ → Option (List LetterWord)
unfolding front_words
words line = cond (eqb (size_of (formed_words line)) (length line)) (Some (formed_words line)) None
