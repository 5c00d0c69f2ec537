-- The plates M1 to M11 of document 01, as rows of one list: each text with what the definitions make of it; and M1 to M7 for
-- setting 0.
use Rattle.std.specs.Prelude.{◌≡◌, Bool, true, false, ◌&&◌, List, [], ◌∷◌, map, ℕ, ℤ, pos, length, get_or, Err, Ok}
use Prim.Native.String.{String}
use Rattle.signed.specs.Signed.{eq_z}
use Rattle.aries.specs.declared.job.Job.{Job}
use Rattle.aries.specs.declared.reader.Setting.TheVariants.{Hundredths}
use Rattle.aries.specs.declared.setup.Program.{Program}
use Rattle.aries.specs.Outcome.{refusal_number, Out}
use Rattle.aries.specs.Text.{bytes, lines, without_spaces}
use Rattle.aries.specs.declared.entry.Entry.{Entry}
use Rattle.aries.specs.Entries.{Made, cells}
use Rattle.aries.specs.Judging.{lending, limits}
use Rattle.aries.specs.Moves.{point_at, zero_point}
use Rattle.aries.specs.Macros.{characters}
use Rattle.aries.specs.Program.{fresh_program, expand, run_from}

-- places for 4,096 entries, as the program hitlist lends
abbrev pub numbers : ℕ
numbers = 16384

-- What a row shows: the count of entries and some of them, a refusal with its number and line, or the characters that are
-- stored in the end.
pub data Seen : Type 0 where
  entries : ℕ → List Entry → Seen
  refusal : ℕ → ℕ → Seen
  stored : ℕ → Seen

-- what to look at: entries by their indexes, counted from 1, or the stored characters
pub data View : Type 0 where
  entries_at : List ℕ → View
  storage : View

pub record Row : Type 0 where
  pub text : String
  pub view : View
  pub expected : Seen

-- past the end of the list
abbrev pub absent_entry : Entry
absent_entry = Entry.Hit (record { place = zero_point; tool = 0; nibble = false })

abbrev pub seen_entries : List ℕ → Out (List Entry) → Seen
seen_entries indexes (Ok es) = entries (length es) (map (λ k. get_or (absent_entry ∷ es) k absent_entry) indexes)
seen_entries indexes (Err e) = refusal (refusal_number e.refusal) e.line

abbrev pub seen_storage : Out (Made Program) → Seen
seen_storage (Ok m) = stored (characters m.after.macros)
seen_storage (Err e) = refusal (refusal_number e.refusal) e.line

abbrev pub seen : View → List ℕ → Seen
seen (entries_at indexes) text = seen_entries indexes (expand (pos 1) text numbers)
seen storage text = seen_storage (run_from (limits job) (without_spaces text) 0 1 (lines (without_spaces text)) (fresh_program job))
  where
    job : Job
    job = lending Hundredths numbers

unfoldable pub found : Row → Seen
unfolding expand run_from bytes characters
found r = seen r.view (bytes r.text)

-- a hit of tool 2 in mode P
abbrev pub hit : ℕ → ℕ → Entry
hit x y = Entry.Hit (record { place = point_at (pos x) (pos y); tool = 2; nibble = false })

abbrev pub row : String → View → Seen → Row
row text view expected = record { text = text; view = view; expected = expected }

abbrev pub all_four : View
all_four = entries_at (1 ∷ 2 ∷ 3 ∷ 4 ∷ [])

unfoldable pub plates : List Row
plates =
    -- M1: the listing of the program hitlist
    row "G92 X600. Y600.\nG90 X100. Y100. T2\nG28 I10. J45. K2\nG50\n" (entries_at (1 ∷ 2 ∷ 3 ∷ []))
    (entries 3 (hit 10000 10000 ∷ hit 10707 10707 ∷ hit 11414 11414 ∷ []))
    -- M2: a rack of eight by twelve by rows
    ∷ row "G92 X600. Y600.\nX50. Y50. T2\nG36 I9. P11 J9. K7\nG50\n" (entries_at (2 ∷ 96 ∷ []))
    (entries 96 (hit 5900 5000 ∷ hit 5000 11300 ∷ []))
    -- M3: by columns
    ∷ row "G92 X600. Y600.\nX50. Y50. T2\nG37 I9. P11 J9. K7\nG50\n" (entries_at (96 ∷ []))
    (entries 96 (hit 14900 5000 ∷ []))
    -- M4: a line from a pattern origin
    ∷ row "G92 X600. Y600.\nG72 X300. Y200.\nG28 I25. J30. K6 T2\nG50\n" (entries_at (1 ∷ 6 ∷ []))
    (entries 6 (hit 32165 21250 ∷ hit 42990 27500 ∷ []))
    -- M5: a circle of four
    ∷ row "G92 X600. Y600.\nG72 X60. Y60.\nG26 I25. J45. K4 T2\nG50\n" all_four
    (entries 4 (hit 7768 7768 ∷ hit 4232 7768 ∷ hit 4232 4232 ∷ hit 7768 4232 ∷ []))
    -- M6: a layout of two by two by G76 from the upper right
    ∷ row "G92 X600. Y600.\nG98 X20. Y100. I250. J150. P1 K1\nU1\nX10. Y10. T2\nV1\nG76 W1 Q4\nG50\n" all_four
    (entries 4 (hit 28000 26000 ∷ hit 28000 11000 ∷ hit 3000 11000 ∷ hit 3000 26000 ∷ []))
    -- M7: the same by G75
    ∷ row "G92 X600. Y600.\nG98 X20. Y100. I250. J150. P1 K1\nU1\nX10. Y10. T2\nV1\nG75 W1 Q4\nG50\n" all_four
    (entries 4 (hit 28000 26000 ∷ hit 3000 26000 ∷ hit 3000 11000 ∷ hit 28000 11000 ∷ []))
    -- M8: the end of the range
    ∷ row "G92 X600. Y600.\nX610.2 T2\nG50\n" (entries_at (1 ∷ [])) (entries 1 (hit 61020 60000 ∷ []))
    -- M9: past it
    ∷ row "G92 X600. Y600.\nX610.21 T2\nG50\n" (entries_at []) (refusal 16 2)
    -- M10: a macro that calls itself
    ∷ row "G92 X600. Y600.\nU60\nW60\nV60\nW60\nG50\n" (entries_at []) (refusal 11 3)
    -- M11: the characters of a body
    ∷ row "G92 X600. Y600.\nU60\nG90X100.Y100.T20\nV60\nG50\n" storage (stored 17)
    ∷ []

-- The theorem: at setting 1 every row shows what it says.
abbrev pub PlatesHold : Type 0
PlatesHold = map found plates ≡ map (λ r. r.expected) plates

-- M1 to M7 in whole millimetres and degrees
unfoldable pub millimetre_plates : List String
millimetre_plates =
    "G92 X600 Y600\nG90 X100 Y100 T2\nG28 I10 J45 K2\nG50\n"
    ∷ "G92 X600 Y600\nX50 Y50 T2\nG36 I9 P11 J9 K7\nG50\n"
    ∷ "G92 X600 Y600\nX50 Y50 T2\nG37 I9 P11 J9 K7\nG50\n"
    ∷ "G92 X600 Y600\nG72 X300 Y200\nG28 I25 J30 K6 T2\nG50\n"
    ∷ "G92 X600 Y600\nG72 X60 Y60\nG26 I25 J45 K4 T2\nG50\n"
    ∷ "G92 X600 Y600\nG98 X20 Y100 I250 J150 P1 K1\nU1\nX10 Y10 T2\nV1\nG76 W1 Q4\nG50\n"
    ∷ "G92 X600 Y600\nG98 X20 Y100 I250 J150 P1 K1\nU1\nX10 Y10 T2\nV1\nG75 W1 Q4\nG50\n" ∷ []

-- two lists have the same numbers
abbrev pub same_numbers : List ℤ → List ℤ → Bool
same_numbers [] [] = true
same_numbers [] (n ∷ ns) = false
same_numbers (m ∷ ms) [] = false
same_numbers (m ∷ ms) (n ∷ ns) = eq_z m n && same_numbers ms ns

-- two texts are accepted, and have the same list
unfoldable pub same_list : Out (List Entry) → Out (List Entry) → Bool
unfolding cells
same_list (Ok es) (Ok fs) = same_numbers (cells es) (cells fs)
same_list (Ok es) (Err e) = false
same_list (Err e) out = false

-- each text at setting 0 and that of its row at setting 1
unfoldable pub same_lists : List String → List Row → Bool
unfolding expand bytes same_list
same_lists [] rows = true
same_lists (t ∷ ts) [] = false
same_lists (t ∷ ts) (r ∷ rows) =
    same_list (expand (pos 0) (bytes t) numbers) (expand (pos 1) (bytes r.text) numbers) && same_lists ts rows

-- The theorem: at setting 0 they have the lists that M1 to M7 have at setting 1.
abbrev pub MillimetresHold : Type 0
MillimetresHold = same_lists millimetre_plates plates ≡ true
