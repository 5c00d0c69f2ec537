-- The codes of blocks, and the words of a block by letter. (Document 01, "Text, words, units"; document 02, §2 and §5.)
use Rattle.std.specs.Prelude.{Bool, true, false, not, cond, ◌&&◌, ℕ, eqb, nat_abs, get_or, set, replicate, None, Option, Some, is_some, unwrap_or}
use mathlib.Core.List.{List, [], ◌∷◌, ◌++◌, foldl}
use Rattle.aries.specs.declared.word.Word.{Word}
use Rattle.aries.specs.declared.word.Words.{Words}
use Rattle.aries.specs.declared.block.Kind.{Kind}
use Rattle.aries.specs.declared.block.Kind.TheVariants.{G26, G28, G29, G36, G37, G50, G70, G72, G75, G76, G92, G93, G98, G66, G73}
use Rattle.aries.specs.declared.block.Direct.{Direct}
use Rattle.aries.specs.declared.block.Direct.TheVariants as direct
use Rattle.aries.specs.declared.block.Measure.{Measure}
use Rattle.aries.specs.declared.block.Measure.TheVariants.{Absolute, Incremental}
use Rattle.aries.specs.Letters.{letter_g, index_of}
use Rattle.aries.specs.Words.{LetterWord}

-- ---- Codes

-- the value of the first row with a number, if a table has one
abbrev pub row : {A : Type 0} → List (ℕ × A) → ℕ → Option A
row [] n = None
row (r ∷ rs) n = cond (eqb n r.0) (Some r.1) (row rs n)

-- it has one
abbrev pub has_row : {A : Type 0} → List (ℕ × A) → ℕ → Bool
has_row rows n = is_some (row rows n)

-- its value, else the one at hand
abbrev pub lookup : {A : Type 0} → List (ℕ × A) → ℕ → A → A
lookup rows n other = unwrap_or (row rows n) other

-- the codes of patterns
abbrev pub pattern_codes : List (ℕ × Kind)
pattern_codes = (26, G26) ∷ (28, G28) ∷ (29, G29) ∷ (36, G36) ∷ (37, G37) ∷ (66, G66) ∷ []

-- the codes of blocks
abbrev pub codes : List (ℕ × Kind)
codes =
    pattern_codes
    ++ (50, G50) ∷ (70, G70) ∷ (72, G72) ∷ (73, G73) ∷ (75, G75) ∷ (76, G76) ∷ (92, G92) ∷ (93, G93) ∷ (98, G98) ∷ []

-- the codes that say how X and Y are read
abbrev pub measures : List (ℕ × Measure)
measures = (90, Absolute) ∷ (91, Incremental) ∷ []

-- the M codes: M00 and M01 are stops, M12 and M13 set the mode, M08 and M09 do nothing
abbrev pub m_codes : List (ℕ × Direct)
m_codes =
    (0, direct.Stop false) ∷ (1, direct.Stop true) ∷ (8, direct.Idle) ∷ (9, direct.Idle) ∷ (12, direct.Nibble true)
    ∷ (13, direct.Nibble false) ∷ []

-- ---- Words by letter

-- words from A to Z, where they are written
abbrev pub Letters : Type 0
Letters = List (Option Word)

-- the word with a letter
abbrev pub at : Letters → ℕ → Option Word
at w letter = get_or w (index_of letter) None

-- a letter is written
abbrev pub has : Letters → ℕ → Bool
has w letter = is_some (at w letter)

-- a test that an absent word passes
abbrev pub absent_or : (Word → Bool) → Option Word → Bool
absent_or test None = true
absent_or test (Some v) = test v

-- The words of a block by letter. G stands apart: the code, and the G90 or G91. A block without words:
abbrev pub no_words : Words
no_words = record { letters = replicate 26 None; code = None; measure = None }

-- a number without sign or point
abbrev pub is_plain : Word → Bool
is_plain v = not v.signed && not v.pointed

-- G and M codes go by their number
abbrev pub code_of : Word → ℕ
code_of v = nat_abs v.value

-- the G90 or G91 that the word of a G says
abbrev pub measure_of : Word → Option Measure
measure_of v = cond (is_plain v) (row measures (code_of v)) None

-- it says one
abbrev pub is_measure : Word → Bool
is_measure v = is_some (measure_of v)

-- the words with one more: a G90 or G91, any other G as the code, any other letter in its place
unfoldable pub added : Words → ℕ → Word → Words
added w letter v =
    cond (eqb letter letter_g)
    (cond (is_measure v)
    (record { letters = w.letters; code = w.code; measure = measure_of v })
    (record { letters = w.letters; code = Some (code_of v); measure = w.measure }))
    (record { letters = set w.letters (index_of letter) (Some v); code = w.code; measure = w.measure })

-- the words of a block, read from left to right
unfoldable pub by_letter : List LetterWord → Words
unfolding added
by_letter ws = foldl (λ w r. added w r.letter r.word) no_words ws
