-- Each number that is narrowed has passed its range (`Ranges` of aries), and each arm is that of the definition.
use mathlib.Core.Path.{◌≡◌, refl}
use mathlib.Core.Bool.{true}
use Prim.Native.Nat.{ℕ, ◌≤◌}
use Rattle.aries.specs.declared.block.Kind.{Kind}
use Rattle.aries.specs.Letters.{letter_a, letter_b, letter_k, letter_p, letter_q, letter_t, letter_u, letter_v, letter_w}
use Rattle.aries.specs.ByLetter.{Letters}
use Rattle.aries.specs.Numbers.{ranges_of}
use Rattle.aries.specs.Blocks.{count}
use Rattle.aries.proofs.Ranges.{limits, own_limit, common_limit}
use Rattle.blocks.proofs.request.block_of.Goals.{Start}
use Rattle.blocks.proofs.request.block_of.Goals as goal

-- the words that are at hand
abbrev all_words : Start → Letters
all_words s = s.args.words.now.letters

module _ (s : Start) where
  -- a number that the kind limits, and two of them
  own : {k : Kind} → s.args.kind ≡ k → (letter cap : ℕ) → limits (ranges_of k) letter cap ≡ true → count (all_words s) letter ≤ cap
  own = own_limit (all_words s) s.args.kind s.requires.ranged

  two :
      {k : Kind} → s.args.kind ≡ k → (l m cap : ℕ) → limits (ranges_of k) l cap ≡ true → limits (ranges_of k) m cap ≡ true
      → (count (all_words s) l ≤ cap) × (count (all_words s) m ≤ cap)
  two e l m cap p q = (own e l cap p, own e m cap q)

  -- T and A, which are limited in every kind
  tool : count (all_words s) letter_t ≤ 255
  tool = common_limit (all_words s) s.args.kind s.requires.ranged letter_t 255 refl

  tool-and-memory : (count (all_words s) letter_t ≤ 255) × (count (all_words s) letter_a ≤ 255)
  tool-and-memory = (tool, common_limit (all_words s) s.args.kind s.requires.ranged letter_a 255 refl)

-- ---- What is asked on the way

pub circle_of-requires : goal.circle_of-requires
circle_of-requires c = own (goal.at.circle_of-requires c).Start c.in-G26.is letter_k 999 refl

pub line_of-requires : goal.line_of-requires
line_of-requires c = own (goal.at.line_of-requires c).Start c.in-G28.is letter_k 999 refl

pub arc_of-requires : goal.arc_of-requires
arc_of-requires c = own (goal.at.arc_of-requires c).Start c.in-G29.is letter_k 999 refl

pub grid_of-requires : goal.grid_of-requires
grid_of-requires c = two (goal.at.grid_of-requires c).Start c.in-G36.is letter_p letter_k 999 refl refl

pub grid_of-requires-in-G37 : goal.grid_of-requires-in-G37
grid_of-requires-in-G37 c = two (goal.at.grid_of-requires-in-G37 c).Start c.in-G37.is letter_p letter_k 999 refl refl

pub pattern_block-requires : goal.pattern_block-requires
pattern_block-requires c = tool-and-memory (goal.at.pattern_block-requires c).Start

pub pattern_block-requires-in-G28 : goal.pattern_block-requires-in-G28
pattern_block-requires-in-G28 c = tool-and-memory (goal.at.pattern_block-requires-in-G28 c).Start

pub pattern_block-requires-in-G29 : goal.pattern_block-requires-in-G29
pattern_block-requires-in-G29 c = tool-and-memory (goal.at.pattern_block-requires-in-G29 c).Start

pub pattern_block-requires-in-G36 : goal.pattern_block-requires-in-G36
pattern_block-requires-in-G36 c = tool-and-memory (goal.at.pattern_block-requires-in-G36 c).Start

pub pattern_block-requires-in-G37 : goal.pattern_block-requires-in-G37
pattern_block-requires-in-G37 c = tool-and-memory (goal.at.pattern_block-requires-in-G37 c).Start

pub pattern_block-requires-in-G66 : goal.pattern_block-requires-in-G66
pattern_block-requires-in-G66 c = tool-and-memory (goal.at.pattern_block-requires-in-G66 c).Start

pub small_written-requires : goal.small_written-requires
small_written-requires c = tool (goal.at.small_written-requires c).Start

pub small_written-requires-in-Position : goal.small_written-requires-in-Position
small_written-requires-in-Position c = tool (goal.at.small_written-requires-in-Position c).Start

pub mirroring_of-requires : goal.mirroring_of-requires
mirroring_of-requires c = two (goal.at.mirroring_of-requires c).Start c.in-G73.is letter_w letter_q 255 refl refl

pub copies_of-requires : goal.copies_of-requires
copies_of-requires c = two (goal.at.copies_of-requires c).Start c.in-G75.is letter_w letter_q 255 refl refl

pub copies_of-requires-in-G76 : goal.copies_of-requires-in-G76
copies_of-requires-in-G76 c = two (goal.at.copies_of-requires-in-G76 c).Start c.in-G76.is letter_w letter_q 255 refl refl

pub layout_of-requires-clause-counts : goal.layout_of-requires-clause-counts
layout_of-requires-clause-counts c = two (goal.at.layout_of-requires-clause-counts c).Start c.in-G98.is letter_p letter_k 999 refl refl

pub small-requires : goal.small-requires
small-requires c = own (goal.at.small-requires c).Start c.in-LetterB.is letter_b 255 refl

pub small-requires-in-LetterU : goal.small-requires-in-LetterU
small-requires-in-LetterU c = own (goal.at.small-requires-in-LetterU c).Start c.in-LetterU.is letter_u 255 refl

pub small-requires-in-LetterV : goal.small-requires-in-LetterV
small-requires-in-LetterV c = own (goal.at.small-requires-in-LetterV c).Start c.in-LetterV.is letter_v 255 refl

pub small-requires-in-LetterW : goal.small-requires-in-LetterW
small-requires-in-LetterW c = own (goal.at.small-requires-in-LetterW c).Start c.in-LetterW.is letter_w 255 refl
