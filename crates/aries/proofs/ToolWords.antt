-- T in a block that 6 has passed: it is from 1 to 99, where it is written.
use Rattle.std.specs.Prelude.{IfSome, None, Option, Some, is_none, option_map, unwrap_or}
use mathlib.Core.Path.{◌≡◌, refl, sym}
use mathlib.Core.Bool.{Bool, true, false, cond, true≢false}
use mathlib.Core.List.{List, [], ◌∷◌}
use Prim.Native.Nat.{ℕ, ◌≤◌}
use lib.Dec.{leb, eqb}
use lib.IntN.{nat_abs}
use borrow.Author.Tests.{leb-true}
use Rattle.signed.proofs.Tests.{and_left, and_right}
use Rattle.aries.specs.declared.block.Direct.{Direct}
use Rattle.aries.specs.declared.block.Direct.TheVariants.{Lone, Punch, Move, PatternOrigin, RunPattern, Recall, Nibble, Idle, Stop}
use Rattle.aries.specs.declared.block.Block.{Block}
use Rattle.aries.specs.declared.block.Kind.{Kind}
use Rattle.aries.specs.declared.block.Kind.TheVariants as kind
use Rattle.aries.specs.declared.reader.Setting.{Setting}
use Rattle.aries.specs.declared.word.Word.{Word}
use Rattle.aries.specs.Letters.{letter_n, letter_t, letter_m}
use Rattle.aries.specs.Test.{within, every}
use Rattle.aries.specs.ByLetter.{row, lookup, m_codes, Letters, at, absent_or, is_plain}
use Rattle.aries.specs.Numbers.{last_tool, tool_number, whole, is_of_range, number_fits, ranges_of, common_ranges, in_hundredths, is_ranged}
use Rattle.aries.specs.Blocks.{count, count_written, block_of}

-- tools are numbered from 1 to 99
abbrev pub IsTool : ℕ → Type 0
IsTool t = (1 ≤ t) × (t ≤ last_tool)

-- the T of a direct block, if it has one
abbrev tool_of : Direct → Option ℕ
tool_of Lone = None
tool_of (Punch a t) = t
tool_of (Move a t) = t
tool_of (PatternOrigin a) = None
tool_of (RunPattern p t a) = t
tool_of (Recall n) = None
tool_of (Nibble b) = None
tool_of Idle = None
tool_of (Stop optional) = None

abbrev pub DirectFits : Direct → Type 0
DirectFits d = IfSome (tool_of d) IsTool

abbrev pub BlockFits : Block → Type 0
BlockFits (Block.Direct d) = DirectFits d
BlockFits (Block.Call n) = Unit {0}
BlockFits (Block.Outside o) = Unit {0}

-- so it is with a block from a table where it is with every row: no M code has a T
row_fits : (rs : List (ℕ × Direct)) (n : ℕ) → every (λ r. is_none (tool_of r.1)) rs ≡ true → DirectFits (lookup rs n Idle)
row_fits [] n h = tt
row_fits (r ∷ rs) n h = go (eqb n r.0) (row_fits rs n (and_right (is_none (tool_of r.1)) _ h))
  where
    none_fits : (o : Option ℕ) → is_none o ≡ true → IfSome o IsTool
    none_fits None e = tt
    none_fits (Some t) e = absurd (true≢false (sym e))

    go : (t : Bool) → DirectFits (lookup rs n Idle) → DirectFits (unwrap_or (cond t (Some r.1) (row rs n)) Idle)
    go true rest = none_fits (tool_of r.1) (and_left (is_none (tool_of r.1)) _ h)
    go false rest = rest

module _ (w : Letters) (h : IfSome (count_written w letter_t) IsTool) where
  -- and with every kind of block, where the number of T is from 1 to 99
  block-fits : (k : Kind) → BlockFits (block_of w k)
  unfolding block_of
  block-fits kind.G26 = h
  block-fits kind.G28 = h
  block-fits kind.G29 = h
  block-fits kind.G36 = h
  block-fits kind.G37 = h
  block-fits kind.G66 = h
  block-fits kind.G50 = tt
  block-fits kind.G70 = h
  block-fits kind.G72 = tt
  block-fits kind.G73 = tt
  block-fits kind.G75 = tt
  block-fits kind.G76 = tt
  block-fits kind.G92 = tt
  block-fits kind.G93 = tt
  block-fits kind.G98 = tt
  block-fits kind.Position = h
  block-fits kind.Lone = tt
  block-fits kind.LetterM = row_fits m_codes (count w letter_m) refl
  block-fits kind.LetterB = tt
  block-fits kind.LetterU = tt
  block-fits kind.LetterV = tt
  block-fits kind.LetterW = tt

-- the number of a T in its range, where it is written
tool_written : (o : Option Word) → absent_or (is_of_range tool_number) o ≡ true → IfSome (option_map nat_abs (option_map (λ (v : Word). v.value) o)) IsTool
tool_written None h = tt
tool_written (Some v) h =
    let n = nat_abs v.value in
    let bounds = and_right (is_plain v) (within 1 last_tool n) h in
    (leb-true 1 n (and_left (leb 1 n) (leb n last_tool) bounds), leb-true n last_tool (and_right (leb 1 n) (leb n last_tool) bounds))

-- So it is past 6, whose range for T goes from there to there.
pub words_fit : (s : Setting) (k : Kind) (w : Letters) → is_ranged (in_hundredths s k w) k ≡ true → BlockFits (block_of (in_hundredths s k w) k)
unfolding is_ranged
words_fit s k w ranged =
    let m = in_hundredths s k w in
    let common = and_right (every (number_fits m) (ranges_of k)) (every (number_fits m) common_ranges) ranged in
    let behind_n = and_right (number_fits m (letter_n, whole 0 9999)) _ common in
    block-fits m (tool_written (at m letter_t) (and_left (number_fits m (letter_t, tool_number)) _ behind_n)) k
