-- Numbers: lengths and angles, whole numbers, and their ranges. (Document 01, "Text, words, units", "Patterns", "Macros and
-- layouts"; document 02, §1, §2 and §5; refusal 6.)
use Rattle.std.specs.Prelude.{Bool, true, not, cond, ◌&&◌, List, [], ◌∷◌, ℕ, ℤ, pos, nat_abs, ◌*ℤ◌, set, option_map}
use Prim.Native.String.{String}
use Rattle.std.specs.Int.Signed.{lt_z}
use Rattle.aries.specs.declared.reader.Setting.{Setting}
use Rattle.aries.specs.declared.reader.Setting.TheVariants.{Hundredths, Millimetres}
use Rattle.aries.specs.declared.word.Word.{Word}
use Rattle.aries.specs.declared.block.Kind.{Kind}
use Rattle.aries.specs.declared.block.Kind.TheVariants.{G26, G28, G29, G36, G37, G50, G70, G72, G75, G76, G92, G93, G98, Position, Lone, LetterM, LetterB, LetterU, LetterV, LetterW, G66, G73}
use Rattle.aries.specs.Letters.{letter_a, letter_b, letter_d, letter_i, letter_j, letter_k, letter_n, letter_p, letter_q, letter_t, letter_u, letter_v, letter_w, letter_x, letter_y, index_of}
use Rattle.aries.specs.Test.{within, every}
use Rattle.aries.specs.Text.{bytes}
use Rattle.aries.specs.Judging.{is_near}
use Rattle.aries.specs.ByLetter.{Letters, at, absent_or, is_plain}

-- ---- Lengths and angles

-- What a length or an angle without a point counts: at setting 1 hundredths, at setting 0 whole millimetres or degrees.
abbrev pub without_point : Setting → ℤ → ℤ
without_point Hundredths digits = digits
without_point Millimetres digits = pos 100 *ℤ digits

-- a length or an angle in hundredths; a word with a point has them already
unfoldable pub length_of : Setting → Word → ℤ
length_of s v = cond v.pointed v.value (without_point s v.value)

-- a word with another number, else as it is
abbrev pub with_value : Word → ℤ → Word
with_value v number = record { signed = v.signed; pointed = v.pointed; value = number }

-- a word with its number in hundredths
abbrev pub word_in_hundredths : Setting → Word → Word
word_in_hundredths s v = with_value v (length_of s v)

-- the letters of a kind of block that are lengths or angles, by their use: P is an angle in G29, a length in G66 and else a
-- count; Q is a length in G66 alone
abbrev pub lengths_of : Kind → String
lengths_of G26 = "IJ"
lengths_of G28 = "IJ"
lengths_of G29 = "IJP"
lengths_of G36 = "IJ"
lengths_of G37 = "IJ"
lengths_of G66 = "IJPQD"
lengths_of G50 = ""
lengths_of G70 = "XY"
lengths_of G72 = "XY"
lengths_of G73 = "XY"
lengths_of G75 = ""
lengths_of G76 = ""
lengths_of G92 = "XY"
lengths_of G93 = "XY"
lengths_of G98 = "XYIJD"
lengths_of Position = "XY"
lengths_of Lone = ""
lengths_of LetterM = ""
lengths_of LetterB = ""
lengths_of LetterU = ""
lengths_of LetterV = ""
lengths_of LetterW = ""

-- words by letter, with these letters in hundredths
abbrev pub letters_in_hundredths : Setting → Letters → List ℕ → Letters
letters_in_hundredths s w [] = w
letters_in_hundredths s w (l ∷ ls) = letters_in_hundredths s (set w (index_of l) (option_map (word_in_hundredths s) (at w l))) ls

-- the words of a block of a kind, its lengths and angles in hundredths
unfoldable pub in_hundredths : Setting → Kind → Letters → Letters
unfolding bytes length_of
in_hundredths s k w = letters_in_hundredths s w (bytes (lengths_of k))

-- 6: at setting 0 no length or angle, in hundredths, passes ±999,999
unfoldable pub lengths_fit : Setting → Kind → Letters → Bool
unfolding bytes length_of
lengths_fit Hundredths k w = true
lengths_fit Millimetres k w = every (λ l. absent_or (λ v. is_near (length_of Millimetres v)) (at w l)) (bytes (lengths_of k))

-- ---- Ranges

-- kinds of numbers: a length or an angle, one above zero, one not negative; a whole number without sign or point from
-- one bound to another; a whole number that may have a sign, of a size between the bounds
pub data Range : Type 0 where
  above_zero : Range
  not_negative : Range
  whole : ℕ → ℕ → Range
  signed_whole : ℕ → ℕ → Range

-- a word has a number of a kind
abbrev pub is_of_range : Range → Word → Bool
is_of_range above_zero v = lt_z (pos 0) v.value
is_of_range not_negative v = not (lt_z v.value (pos 0))
is_of_range (whole least most) v = is_plain v && within least most (nat_abs v.value)
is_of_range (signed_whole least most) v = not v.pointed && within least most (nat_abs v.value)

-- how many pattern memories there are
abbrev pub memory_count : ℕ
memory_count = 5

-- A and B
abbrev pub memory_number : Range
memory_number = whole 1 memory_count

-- macros are numbered from 1 to
abbrev pub last_macro : ℕ
last_macro = 89

-- U, V and W
abbrev pub macro_number : Range
macro_number = whole 1 last_macro

-- tools are numbered from 1 to
abbrev pub last_tool : ℕ
last_tool = 99

-- T
abbrev pub tool_number : Range
tool_number = whole 1 last_tool

-- the most that K and P of a pattern may count
abbrev pub pattern_most : ℕ
pattern_most = 999

-- P and K of a grid
abbrev pub grid_steps : Range
grid_steps = whole 0 pattern_most

-- P and K of G98
abbrev pub layout_steps : Range
layout_steps = whole 0 99

-- G73, G75 and G76: the macro, and the way it is mirrored or the corner
abbrev pub call_ranges : List (ℕ × Range)
call_ranges = (letter_w, macro_number) ∷ (letter_q, whole 1 4) ∷ []

-- the letters of a kind of block whose numbers have a range; others are lengths or angles of any sign
abbrev pub ranges_of : Kind → List (ℕ × Range)
ranges_of G26 = (letter_i, above_zero) ∷ (letter_k, signed_whole 1 pattern_most) ∷ []
ranges_of G28 = (letter_k, whole 1 pattern_most) ∷ []
ranges_of G29 = (letter_i, above_zero) ∷ (letter_k, whole 1 pattern_most) ∷ []
ranges_of G36 = (letter_p, grid_steps) ∷ (letter_k, grid_steps) ∷ []
ranges_of G37 = (letter_p, grid_steps) ∷ (letter_k, grid_steps) ∷ []
ranges_of G66 = []
ranges_of G50 = []
ranges_of G70 = []
ranges_of G72 = []
ranges_of G73 = call_ranges
ranges_of G75 = call_ranges
ranges_of G76 = call_ranges
ranges_of G92 = []
ranges_of G93 = []
ranges_of G98 =
    (letter_x, not_negative) ∷ (letter_y, not_negative) ∷ (letter_i, not_negative) ∷ (letter_j, not_negative)
    ∷ (letter_d, not_negative) ∷ (letter_p, layout_steps) ∷ (letter_k, layout_steps) ∷ []
ranges_of Position = []
ranges_of Lone = []
ranges_of LetterM = []
ranges_of LetterB = (letter_b, memory_number) ∷ []
ranges_of LetterU = (letter_u, macro_number) ∷ []
ranges_of LetterV = (letter_v, macro_number) ∷ []
ranges_of LetterW = (letter_w, macro_number) ∷ []

-- N, T and A have one range each wherever they stand
abbrev pub common_ranges : List (ℕ × Range)
common_ranges = (letter_n, whole 0 9999) ∷ (letter_t, tool_number) ∷ (letter_a, memory_number) ∷ []

-- an absent word passes
abbrev pub number_fits : Letters → ℕ × Range → Bool
number_fits w e = absent_or (is_of_range e.1) (at w e.0)

-- the numbers of a block are of their kinds and in their ranges
unfoldable pub is_ranged : Letters → Kind → Bool
is_ranged w k = every (number_fits w) (ranges_of k) && every (number_fits w) common_ranges
