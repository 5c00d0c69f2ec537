-- What reading a number and a word answers.
use Rattle.std.specs.Prelude.{true, false, cond, List, ℕ, ◌+◌, leb, eqb, get_or, drop, Option, Some, None, option_map}
use Rattle.aries.specs.Text.{minus, point}
use Rattle.aries.specs.Words.{Digits, LetterWord, digits, is_sign, hundredths, word_of}
use Rattle.words.specs.declared.Number.{Number}
use Rattle.words.specs.declared.Reading.{Reading}

-- a number from its digits, the byte behind them, and the digits behind that
abbrev pub number_of : Digits → ℕ → Digits → Option Number
number_of whole stop decimals =
    cond (leb 1 whole.count)
    (cond (eqb stop point)
    (cond (leb whole.count 4)
    (Some (record { value = hundredths whole decimals; pointed = true; size = whole.count + 1 + decimals.count }))
    None)
    (Some (record { value = whole.value; pointed = false; size = whole.count })))
    None

-- the number at the front: 1 to 6 digits, or 1 to 4 digits, a point and 0 to 2 digits
unfoldable pub number : List ℕ → Option Number
number bs =
    let whole : Digits = digits 6 0 0 bs in
    number_of whole (get_or bs whole.count 0) (digits 2 0 0 (drop (whole.count + 1) bs))

-- a word from its letter, the byte where its sign is due, and its number with the place where that starts
abbrev pub reading_of : ℕ → ℕ → ℕ → Number → Reading
reading_of letter sign from n =
    record { letter = letter; word = word_of (is_sign sign) (eqb sign minus) n.pointed n.value; end = from + n.size }

-- the word at a place, with the place past it
abbrev pub reading_at : ℕ → Option LetterWord → Option Reading
reading_at at o = option_map (λ (r : LetterWord). record { letter = r.letter; word = r.word; end = at + r.size }) o
