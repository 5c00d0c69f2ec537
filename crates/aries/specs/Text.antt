-- The program text as bytes: which are allowed, lines, and spaces. (Document 01, "Text, words, units"; refusals 1 and 2.)
use Rattle.std.specs.Prelude.{Bool, true, false, ◌||◌, List, [], ◌∷◌, ℕ, suc, eqb, get_or, None, Option, Some}
use Prim.Native.Char.{code}
use Prim.Native.String.{String}
use Prim.Native.String as S
use Rattle.aries.specs.Test.{within, among}

-- the most bytes a text may have
abbrev pub longest : ℕ
longest = 60000

-- a quoted text as its bytes
unfoldable pub bytes : String → List ℕ
bytes S.[] = []
bytes (S.◌∷◌ c s) = code c ∷ bytes s

abbrev pub space : ℕ
space = 32

abbrev pub line_feed : ℕ
line_feed = 10

abbrev pub plus : ℕ
plus = 43

abbrev pub minus : ℕ
minus = 45

abbrev pub point : ℕ
point = 46

abbrev pub is_capital : ℕ → Bool
is_capital b = within 65 90 b

abbrev pub is_digit : ℕ → Bool
is_digit b = within 48 57 b

-- a capital, a digit, a space, a line feed, plus, minus or point
abbrev pub is_allowed : ℕ → Bool
is_allowed b = is_capital b || (is_digit b || among (space ∷ line_feed ∷ plus ∷ minus ∷ point ∷ []) b)

-- the first byte of a line
abbrev pub starts_with : ℕ → List ℕ → Bool
starts_with letter l = eqb (get_or l 0 0) letter

-- the line of the first byte that is not allowed; the text starts in the line given
unfoldable pub stray_line : ℕ → List ℕ → Option ℕ
stray_line line [] = None
stray_line line (b ∷ bs) = elim (is_allowed b) [
  | false ↦ Some line
  | true ↦ elim (eqb b line_feed) [ true ↦ stray_line (suc line) bs | false ↦ stray_line line bs ]
]

-- Spaces are skipped everywhere: a text is read without them. Line feeds stay, and with them the lines' numbers.
unfoldable pub without_spaces : List ℕ → List ℕ
without_spaces [] = []
without_spaces (b ∷ bs) = elim (eqb b space) [ true ↦ without_spaces bs | false ↦ b ∷ without_spaces bs ]

abbrev pub into_first : ℕ → List (List ℕ) → List (List ℕ)
into_first b [] = (b ∷ []) ∷ []
into_first b (l ∷ ls) = (b ∷ l) ∷ ls

-- A line ends with a line feed, which is not part of it; left-over bytes at the end are a last line.
unfoldable pub lines : List ℕ → List (List ℕ)
lines [] = []
lines (b ∷ bs) = elim (eqb b line_feed) [ true ↦ [] ∷ lines bs | false ↦ into_first b (lines bs) ]
