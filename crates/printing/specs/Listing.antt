-- The listing of an answer, its entries and its tally. (Document 01, "The program hitlist"; document 02, §3 and §4.)
use Rattle.std.specs.Prelude.{cond, List, [], ◌∷◌, ◌++◌, ℕ, zero, suc, ◌+◌, ◌*◌, ltb, ℤ, pos, get_or, Ok, Err}
use Rattle.signed.specs.Signed.{eq_z}
use Rattle.aries.specs.declared.entry.Entry.{Entry}
use Rattle.aries.specs.Letters.{letter_n, letter_p}
use Rattle.aries.specs.Numbers.{last_tool}
use Rattle.aries.specs.Program.{answer_of, count_of, list_of, tally_for}
use Rattle.aries.specs.Outcome.{refusal_number, Out}
use Rattle.aries.specs.Text.{bytes, space, line_feed}
use Rattle.printing.specs.Decimals.{decimal, signed_decimal}

-- ---- Lines in order

-- the lines of the first of some things, each from how many come before it
unfoldable pub lines_of : (ℕ → List ℕ) → ℕ → List ℕ
lines_of line zero = []
lines_of line (suc n) = lines_of line n ++ line n

-- ---- The line of an entry

-- a space, and a number of the list
abbrev pub field : ℤ → List ℕ
field a = space ∷ signed_decimal a

-- S stands for a stop, O for an optional one
abbrev pub letter_s : ℕ
letter_s = 83

abbrev pub letter_o : ℕ
letter_o = 79

-- P is mode number 0, N number 1 and S number 2; O is number 3, and stands for any other
abbrev pub mode_letter : ℤ → ℕ
mode_letter m = cond (eq_z m (pos 0)) letter_p (cond (eq_z m (pos 1)) letter_n (cond (eq_z m (pos 2)) letter_s letter_o))

-- the mode ends the line
abbrev pub mode_end : ℤ → List ℕ
mode_end m = space ∷ mode_letter m ∷ line_feed ∷ []

-- An entry that so many others come before: its index, from 1, then X, Y, tool and mode. A list that is too short goes on
-- with zeros.
unfoldable pub entry_line : List ℤ → ℕ → List ℕ
entry_line list i =
    decimal (i + 1)
    ++ (field (get_or list (4 * i) (pos 0))
    ++ (field (get_or list (4 * i + 1) (pos 0)) ++ (field (get_or list (4 * i + 2) (pos 0)) ++ mode_end (get_or list (4 * i + 3) (pos 0)))))

-- the lines of the first entries
abbrev pub entry_lines : List ℤ → ℕ → List ℕ
entry_lines list count = lines_of (entry_line list) count

-- ---- The line of a tool

-- a space, and a figure of the tally
abbrev pub figure_field : ℕ → List ℕ
figure_field n = space ∷ decimal n

-- A tool that so many others come before: its number, from 1, then its hits, and the first and the last index where it
-- stands. A tally that is too short goes on with zeros.
unfoldable pub tool_line : List ℕ → ℕ → List ℕ
tool_line tally i =
    decimal (i + 1)
    ++ (figure_field (get_or tally (3 * i) 0)
    ++ (figure_field (get_or tally (3 * i + 1) 0) ++ (figure_field (get_or tally (3 * i + 2) 0) ++ (line_feed ∷ []))))

-- a tool without hits has no line
abbrev pub used_line : List ℕ → ℕ → List ℕ
used_line tally i = cond (ltb 0 (get_or tally (3 * i) 0)) (tool_line tally i) []

-- the lines of all tools used
abbrev pub tool_lines : List ℕ → List ℕ
tool_lines tally = lines_of (used_line tally) last_tool

-- ---- The listing

-- the head gives the count
unfoldable pub head_line : ℕ → List ℕ
unfolding bytes
head_line count = bytes "ENTRIES " ++ (decimal count ++ (line_feed ∷ []))

-- a refusal is one line
unfoldable pub refusal_line : ℕ → ℕ → List ℕ
unfolding bytes
refusal_line number line = bytes "REFUSED " ++ (decimal number ++ (bytes " LINE " ++ (decimal line ++ (line_feed ∷ []))))

-- what is printed of an answer, its list and its tally: the entries, then the tools used, in tool order
unfoldable pub listing : Out ℕ → List ℤ → List ℕ → List ℕ
unfolding head_line entry_line tool_line lines_of refusal_line
listing (Ok count) list tally = head_line count ++ (entry_lines list count ++ tool_lines tally)
listing (Err e) list tally = refusal_line (refusal_number e.refusal) e.line

-- the listing of what a text comes to, with a lent list of so many numbers
abbrev pub printed : ℕ → Out (List Entry) → List ℕ
printed numbers out = listing (answer_of out) (list_of numbers out) (tally_for out)

-- Room for a line. With an index of 20 digits, three numbers of 11 bytes, a mode, four spaces and a line feed, an entry's line
-- has 59 bytes. With a tool of 2 digits, three figures of 20 digits, three spaces and a line feed, a tool's line has 66.
abbrev pub longest_line : ℕ
longest_line = 72

-- room for a listing: the head, a line for each entry, and one for each tool
abbrev pub listing_room : Out ℕ → ℕ
listing_room answer = longest_line * (suc (count_of answer) + last_tool)
