-- Words from A to Z as the code keeps them: their marks and their numbers, place by place.
use Rattle.std.specs.Prelude.{List, [], ◌∷◌, ℤ, pos, get_or, drop, Option, option_map}
use Rattle.aries.specs.declared.word.Word.{Word}
use Rattle.aries.specs.declared.word.Marks.{Marks}

-- a word from its marks and its number
abbrev pub word_with : ℤ → Marks → Word
word_with number m = record { signed = m.signed; pointed = m.pointed; value = number }

abbrev pub letters_of : List (Option Marks) → List ℤ → List (Option Word)
letters_of [] numbers = []
letters_of (m ∷ ms) numbers = option_map (word_with (get_or numbers 0 (pos 0))) m ∷ letters_of ms (drop 1 numbers)
