-- Lengths and angles of setting 0, letter by letter.
use Rattle.std.specs.Prelude.{Bool, true, not, ◌&&◌, List, [], ◌∷◌, ℕ, eqb}
use Rattle.aries.specs.declared.reader.Setting.TheVariants.{Millimetres}
use Rattle.aries.specs.declared.word.Word.{Word}
use Rattle.aries.specs.declared.word.Words.{Words}
use Rattle.aries.specs.Letters.{index_of}
use Rattle.aries.specs.Test.{every}
use Rattle.aries.specs.ByLetter.{Letters, at, absent_or}
use Rattle.aries.specs.Judging.{is_near}
use Rattle.aries.specs.Numbers.{length_of, letters_in_hundredths}

-- a letter's length does not pass the limit
abbrev pub fits : Letters → ℕ → Bool
fits w letter = absent_or (λ (v : Word). is_near (length_of Millimetres v)) (at w letter)

-- the words of a block, some letters in hundredths
abbrev pub hundredths_put : Words → List ℕ → Words
hundredths_put w ls = record { letters = letters_in_hundredths Millimetres w.letters ls; code = w.code; measure = w.measure }

-- a letter is none of these
abbrev pub is_other : List ℕ → ℕ → Bool
is_other ls letter = every (λ l. not (eqb (index_of letter) (index_of l))) ls

-- no letter stands twice
abbrev pub is_apart : List ℕ → Bool
is_apart [] = true
is_apart (l ∷ ls) = every (λ m. not (eqb (index_of m) (index_of l))) ls && is_apart ls
