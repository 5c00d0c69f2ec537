-- Blocks: what the words of a block ask for. (Document 01, "Moving and punching", "Patterns", "Macros and layouts"; document 02,
-- §2 and §5; refusals 4, 5 and 6, each of which looks at the whole block before the next does.)
use Rattle.std.specs.Prelude.{Bool, true, false, cond, ◌&&◌, List, ℕ, ◌+◌, ℤ, pos, nat_abs, Err, Ok, Option, Some, None, Result, unwrap_or, option_map}
use Rattle.std.specs.Int.Signed.{lt_z}
use Rattle.sine.specs.Sine.{turn}
use Rattle.aries.specs.declared.refusal.Refusal.{Refusal}
use Rattle.aries.specs.declared.refusal.Refusal.TheVariants.{WordForm, NotListed, WrongNumber}
use Rattle.aries.specs.declared.point.Point.{Point}
use Rattle.aries.specs.declared.word.Word.{Word}
use Rattle.aries.specs.declared.block.Kind.{Kind}
use Rattle.aries.specs.declared.block.Kind.TheVariants.{G26, G28, G29, G36, G37, G50, G70, G72, G75, G76, G92, G93, G98, Position, Lone, LetterM, LetterB, LetterU, LetterV, LetterW, G66, G73}
use Rattle.aries.specs.declared.block.Axes.{Axes}
use Rattle.aries.specs.declared.block.Steps.{Steps}
use Rattle.aries.specs.declared.block.Pattern.{Pattern}
use Rattle.aries.specs.declared.block.Shear.{Shear}
use Rattle.aries.specs.declared.block.Pattern.TheVariants.{Line, Arc, Circle, Grid}
use Rattle.aries.specs.declared.block.Pattern.TheVariants as pattern
use Rattle.aries.specs.declared.block.Layout.{Layout}
use Rattle.aries.specs.declared.block.Copies.{Copies}
use Rattle.aries.specs.declared.block.Mirroring.{Mirroring}
use Rattle.aries.specs.declared.block.Call.TheVariants as call
use Rattle.aries.specs.declared.block.Direct.TheVariants as direct
use Rattle.aries.specs.declared.block.Outside.TheVariants as outside
use Rattle.aries.specs.declared.block.Block.{Block}
use Rattle.aries.specs.declared.block.Measure.{Measure}
use Rattle.aries.specs.declared.block.Instruction.{Instruction}
use Rattle.aries.specs.declared.reader.Setting.{Setting}
use Rattle.aries.specs.declared.reader.Reader.{Reader}
use Rattle.aries.specs.Letters.{letter_a, letter_b, letter_d, letter_i, letter_j, letter_k, letter_m, letter_p, letter_q, letter_t, letter_u, letter_v, letter_w, letter_x, letter_y}
use Rattle.aries.specs.Words.{LetterWord, words}
use Rattle.aries.specs.ByLetter.{lookup, m_codes, Letters, at, by_letter}
use Rattle.aries.specs.declared.word.Words.{Words}
use Rattle.aries.specs.Forms.{in_places, kind_of, is_listed}
use Rattle.aries.specs.Numbers.{in_hundredths, lengths_fit, is_ranged}

-- ---- What a block asks for

-- the number of a letter, where it is written
abbrev pub written : Letters → ℕ → Option ℤ
written w letter = option_map (λ (v : Word). v.value) (at w letter)

-- a length or an angle, in hundredths; 0 if it is absent
abbrev pub number : Letters → ℕ → ℤ
number w letter = unwrap_or (written w letter) (pos 0)

-- a whole number, and a length of G98, which 6 has found not negative; 0 if it is absent
abbrev pub count : Letters → ℕ → ℕ
count w letter = nat_abs (number w letter)

-- a whole number, where it is written: the tool of T and the memory of A
abbrev pub count_written : Letters → ℕ → Option ℕ
count_written w letter = option_map nat_abs (written w letter)

-- X and Y, where they are written
abbrev pub axes : Letters → Axes
axes w = record { x = written w letter_x; y = written w letter_y }

-- P and K as steps
abbrev pub steps : Letters → Steps
steps w = record { x = count w letter_p; y = count w letter_k }

-- X and Y as a point
abbrev pub point_of_xy : Letters → Point
point_of_xy w = record { x = number w letter_x; y = number w letter_y }

-- D is added to both pitches
abbrev pub layout : Letters → Layout
layout w =
    record {
      reference = point_of_xy w;
      pitch = record { x = count w letter_i + count w letter_d; y = count w letter_j + count w letter_d };
      steps = steps w;
    }

-- G75, or with vertical G76
abbrev pub copies : Bool → Letters → Copies
copies vertical w = record { vertical = vertical; part = count w letter_w; corner = count w letter_q }

-- G73
abbrev pub mirroring : Letters → Mirroring
mirroring w = record { part = count w letter_w; way = count w letter_q; axes = axes w }

-- G28
abbrev pub line_pattern : Letters → Pattern
line_pattern w = Line (number w letter_i) (number w letter_j) (count w letter_k)

-- G29, in which P is an angle
abbrev pub arc_pattern : Letters → Pattern
arc_pattern w = Arc (number w letter_i) (number w letter_j) (number w letter_p) (count w letter_k)

-- G26; K negative is clockwise
abbrev pub circle_pattern : Letters → Pattern
circle_pattern w = Circle (number w letter_i) (number w letter_j) (lt_z (number w letter_k) (pos 0)) (count w letter_k)

-- G36, or with vertical G37
abbrev pub grid_pattern : Bool → Letters → Pattern
grid_pattern vertical w = Grid vertical (record { x = number w letter_i; y = number w letter_j }) (steps w)

-- the lengths of G66; an absent Q equals P, an absent D is 0
abbrev pub shear : Letters → Shear
shear w =
    record {
      length = number w letter_i;
      along = number w letter_p;
      across = unwrap_or (written w letter_q) (number w letter_p);
      compensation = number w letter_d;
    }

-- G66, in which P and Q are lengths; of its angle whole turns are dropped
unfoldable pub shear_pattern : Letters → Pattern
unfolding turn
shear_pattern w = pattern.Shear (turn (number w letter_j)) (shear w)

-- a pattern with its T and A
abbrev pub pattern_block : Letters → Pattern → Block
pattern_block w p = Block.Direct (direct.RunPattern p (count_written w letter_t) (count_written w letter_a))

-- an M code (5 has refused a number that is none)
abbrev pub m_block : ℕ → Block
m_block n = Block.Direct (lookup m_codes n direct.Idle)

-- the block of a kind
unfoldable pub block_of : Letters → Kind → Block
unfolding shear_pattern
block_of w G26 = pattern_block w (circle_pattern w)
block_of w G28 = pattern_block w (line_pattern w)
block_of w G29 = pattern_block w (arc_pattern w)
block_of w G36 = pattern_block w (grid_pattern false w)
block_of w G37 = pattern_block w (grid_pattern true w)
block_of w G66 = pattern_block w (shear_pattern w)
block_of w G50 = Block.Outside outside.End
block_of w G70 = Block.Direct (direct.Move (axes w) (count_written w letter_t))
block_of w G72 = Block.Direct (direct.PatternOrigin (axes w))
block_of w G73 = Block.Call (call.Mirrored (mirroring w))
block_of w G75 = Block.Outside (outside.Copy (copies false w))
block_of w G76 = Block.Outside (outside.Copy (copies true w))
block_of w G92 = Block.Outside (outside.Machine (point_of_xy w))
block_of w G93 = Block.Outside (outside.Offset (axes w))
block_of w G98 = Block.Outside (outside.Layout (layout w))
block_of w Position = Block.Direct (direct.Punch (axes w) (count_written w letter_t))
block_of w Lone = Block.Direct direct.Lone
block_of w LetterM = m_block (count w letter_m)
block_of w LetterB = Block.Direct (direct.Recall (count w letter_b))
block_of w LetterU = Block.Outside (outside.Open (count w letter_u))
block_of w LetterV = Block.Outside (outside.Close (count w letter_v))
block_of w LetterW = Block.Call (call.Plain (count w letter_w))

-- what a block of a kind asks for, with its G90 or G91, from words in hundredths
abbrev pub instruction_of : Kind → Option Measure → Letters → Instruction
instruction_of k m w = record { measure = m; block = block_of w k }

-- 6: at setting 0 no length or angle passes the limit; and all numbers, lengths and angles in hundredths, are in their ranges
abbrev pub ranged : Setting → Kind → Option Measure → Letters → Result Instruction Refusal
ranged s k m w =
    let h : Letters = in_hundredths s k w in
    cond (lengths_fit s k w && is_ranged h k) (Ok (instruction_of k m h)) (Err WrongNumber)

-- the instruction of words as those of a kind, if there is one: 5, then 6
abbrev pub listed_as : Reader → List LetterWord → Option Kind → Result Instruction Refusal
listed_as r ws None = Err NotListed
listed_as r ws (Some k) =
    let w : Words = by_letter ws in
    cond (in_places ws && is_listed r.given w k) (ranged r.setting k w.measure w.letters) (Err NotListed)

-- the instruction of a block from its words: 5, then 6
unfoldable pub decode_words : Reader → List LetterWord → Result Instruction Refusal
unfolding by_letter in_places kind_of is_listed in_hundredths lengths_fit is_ranged block_of
decode_words r ws = listed_as r ws (kind_of (by_letter ws))

-- 4, and then the words
abbrev pub decoded : Reader → Option (List LetterWord) → Result Instruction Refusal
decoded r None = Err WordForm
decoded r (Some ws) = decode_words r ws

-- the instruction of a line: 4, then 5 and 6
unfoldable pub decode : Reader → List ℕ → Result Instruction Refusal
unfolding words decode_words
decode r bs = decoded r (words bs)
