-- Which words may stand in a block: their places, and the letters of each code. (Document 01, "Text, words, units"; document 02,
-- §2 and §5; refusal 5.)
use Rattle.std.specs.Prelude.{Bool, true, false, not, cond, ◌&&◌, ◌||◌, List, [], ◌∷◌, ◌++◌, ℕ, eqb, None, Option, Some, is_some, is_none}
use Prim.Native.String.{String}
use Rattle.aries.specs.declared.block.Kind.{Kind}
use Rattle.aries.specs.declared.block.Kind.TheVariants.{G26, G28, G29, G36, G37, G50, G70, G72, G75, G76, G92, G93, G98, Position, Lone, LetterM, LetterB, LetterU, LetterV, LetterW, G66, G73}
use Rattle.aries.specs.declared.block.Measure.{Measure}
use Rattle.aries.specs.declared.block.Measure.TheVariants.{Absolute, Incremental}
use Rattle.aries.specs.declared.word.Word.{Word}
use Rattle.aries.specs.declared.reader.Given.{Given}
use Rattle.aries.specs.Letters.{letter_a, letter_b, letter_g, letter_m, letter_n, letter_u, letter_v, letter_w, letter_x, letter_y}
use Rattle.aries.specs.Test.{among, every, any_of, is_empty}
use Rattle.aries.specs.Text.{bytes}
use Rattle.aries.specs.Words.{LetterWord}
use Rattle.aries.specs.ByLetter.{row, has_row, pattern_codes, codes, m_codes, Letters, at, has, absent_or, is_plain, code_of, is_measure, by_letter}
use Rattle.aries.specs.declared.word.Words.{Words}

-- ---- Places (refusal 5): each rule is about a word and the words before it

-- No letter stands twice, except G.
abbrev pub stands_once : List LetterWord → LetterWord → Bool
stands_once before r = eqb r.letter letter_g || not (has (by_letter before).letters r.letter)

-- N stands first.
abbrev pub n_first : List LetterWord → LetterWord → Bool
n_first before r = not (eqb r.letter letter_n) || is_empty before

-- there is a code, that of a pattern
abbrev pub is_pattern_code : Option ℕ → Bool
is_pattern_code None = false
is_pattern_code (Some code) = has_row pattern_codes code

-- A stands before the pattern's G, so no pattern code stands before A.
abbrev pub a_before_pattern : List LetterWord → LetterWord → Bool
a_before_pattern before r = not (eqb r.letter letter_a) || not (is_pattern_code (by_letter before).code)

-- There is at most one code, and a G with a sign or a point is no code.
abbrev pub one_code : List LetterWord → LetterWord → Bool
one_code before r =
    not (eqb r.letter letter_g) || (is_measure r.word || (is_plain r.word && not (is_some (by_letter before).code)))

-- Besides the code there is at most one of G90, G91.
abbrev pub one_measure : List LetterWord → LetterWord → Bool
one_measure before r =
    not (eqb r.letter letter_g) || (not (is_measure r.word) || is_none (by_letter before).measure)

-- a word is in its place behind others
unfoldable pub in_place : List LetterWord → LetterWord → Bool
unfolding by_letter
in_place before r =
    stands_once before r
    && (n_first before r && (a_before_pattern before r && (one_code before r && one_measure before r)))

-- words behind others, each in its place
unfoldable pub in_place_after : List LetterWord → List LetterWord → Bool
unfolding in_place
in_place_after before [] = true
in_place_after before (r ∷ rs) = in_place before r && in_place_after (before ++ r ∷ []) rs

-- every word of a block is in its place
unfoldable pub in_places : List LetterWord → Bool
unfolding in_place_after
in_places ws = in_place_after [] ws

-- ---- Letters (refusal 5)

-- a block without a code: by the letter that stands alone, or by its axes
abbrev pub plain_kind : Letters → Kind
plain_kind w =
    cond (has w letter_m) LetterM
    (cond (has w letter_b) LetterB
    (cond (has w letter_u) LetterU
    (cond (has w letter_v) LetterV
    (cond (has w letter_w) LetterW
    (cond (has w letter_x || has w letter_y) Position Lone)))))

-- the kind of a block, if it has one: by its code, or by its letters where it has none
unfoldable pub kind_of : Words → Option Kind
kind_of w = elim w.code [ None ↦ Some (plain_kind w.letters) | Some code ↦ row codes code ]

-- which of G90 and G91 may stand in a block, or has to
pub data Beside : Type 0 where
  neither : Beside
  absolute_only : Beside
  any_of_both : Beside
  required : Beside

-- the letters of a kind of block besides N: all that it must have, those of which it must have one at least, those
-- that it may have, and the G90 or G91 beside them
pub record Form : Type 0 where
  pub must : String
  pub one_of : String
  pub may : String
  pub beside : Beside

abbrev pub form : String → String → String → Beside → Form
form must one_of may beside = record { must = must; one_of = one_of; may = may; beside = beside }

-- the letters of each kind
abbrev pub form_of : Kind → Form
form_of G26 = form "IJK" "" "TA" any_of_both
form_of G28 = form "IJK" "" "TA" any_of_both
form_of G29 = form "IJPK" "" "TA" any_of_both
form_of G36 = form "IPJK" "" "TA" any_of_both
form_of G37 = form "IPJK" "" "TA" any_of_both
form_of G66 = form "IJP" "" "QDTA" any_of_both
form_of G50 = form "" "" "" neither
form_of G70 = form "" "XY" "T" any_of_both
form_of G72 = form "" "XY" "" any_of_both
form_of G73 = form "WQ" "" "XY" neither
form_of G75 = form "WQ" "" "" neither
form_of G76 = form "WQ" "" "" neither
form_of G92 = form "XY" "" "" neither
form_of G93 = form "" "XY" "" absolute_only
form_of G98 = form "XY" "" "IJPKD" neither
form_of Position = form "" "XY" "T" any_of_both
form_of Lone = form "" "" "" required
form_of LetterM = form "M" "" "" neither
form_of LetterB = form "B" "" "" neither
form_of LetterU = form "U" "" "" neither
form_of LetterV = form "V" "" "" neither
form_of LetterW = form "W" "" "" neither

-- all letters of a form
abbrev pub listed : Form → List ℕ
listed f = bytes f.must ++ (bytes f.one_of ++ bytes f.may)

-- the letters from A to Z, N and G aside
unfoldable pub other_letters : List ℕ
unfolding bytes
other_letters = bytes "ABCDEFHIJKLMOPQRSTUVWXYZ"

-- one of the letters at least is there, where there are any to choose from
abbrev pub one_of_them : Letters → List ℕ → Bool
one_of_them w ls = is_empty ls || any_of (has w) ls

-- a letter is one of those listed, or not written
abbrev pub is_listed_or_absent : Letters → Form → ℕ → Bool
is_listed_or_absent w f letter = not (has w letter) || among (listed f) letter

-- All that must stand there does, one of those of which one must, and no letter that is not listed.
unfoldable pub letters_fit : Letters → Form → Bool
unfolding bytes other_letters
letters_fit w f =
    every (has w) (bytes f.must)
    && (one_of_them w (bytes f.one_of) && every (is_listed_or_absent w f) other_letters)

-- there is G91
abbrev pub is_g91 : Option Measure → Bool
is_g91 None = false
is_g91 (Some Absolute) = false
is_g91 (Some Incremental) = true

-- one of G90, G91 stands beside the code, or none does, as the form has it
abbrev pub beside_fits : Option Measure → Beside → Bool
beside_fits m neither = is_none m
beside_fits m absolute_only = not (is_g91 m)
beside_fits m any_of_both = true
beside_fits m required = is_some m

-- X and Y of a G73 are written, or have been given in one before
abbrev pub is_given : Given → Letters → Bool
is_given given w = (has w letter_x || given.x) && (has w letter_y || given.y)

-- an M word is one of the M codes, which go by their number and have no sign or point
abbrev pub is_m_code : Word → Bool
is_m_code v = is_plain v && has_row m_codes (code_of v)

-- a U or V line starts with its letter, so it has no N; an M word is an M code; a G73 has its X and Y
abbrev pub kind_fits : Given → Letters → Kind → Bool
kind_fits given w G26 = true
kind_fits given w G28 = true
kind_fits given w G29 = true
kind_fits given w G36 = true
kind_fits given w G37 = true
kind_fits given w G66 = true
kind_fits given w G50 = true
kind_fits given w G70 = true
kind_fits given w G72 = true
kind_fits given w G73 = is_given given w
kind_fits given w G75 = true
kind_fits given w G76 = true
kind_fits given w G92 = true
kind_fits given w G93 = true
kind_fits given w G98 = true
kind_fits given w Position = true
kind_fits given w Lone = true
kind_fits given w LetterM = absent_or is_m_code (at w letter_m)
kind_fits given w LetterB = true
kind_fits given w LetterU = not (has w letter_n)
kind_fits given w LetterV = not (has w letter_n)
kind_fits given w LetterW = true

-- a block has the letters of its kind; which of X and Y a G73 has given before counts for G73 alone
unfoldable pub is_listed : Given → Words → Kind → Bool
unfolding letters_fit
is_listed given w k =
    kind_fits given w.letters k && (beside_fits w.measure (form_of k).beside && letters_fit w.letters (form_of k))
