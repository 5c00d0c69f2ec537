-- The law `CallsNear`: X and Y of a line that is a call are near. Words have six digits at most, and at
-- setting 0 no length passes the limit.
use Rattle.std.specs.Prelude.{None, Some, Option, Err, Ok, Result}
use mathlib.Core.Path.{◌≡◌, refl, subst}
use mathlib.Core.Bool.{Bool, true, false, cond, ◌&&◌}
use mathlib.Core.List.{List}
use Prim.Native.Nat.{ℕ}
use lib.Dec.{eqb}
use lib.ListN.{length}
use borrow.Author.Tests.{le-leb}
use Rattle.aries.specs.declared.refusal.Refusal.TheVariants.{NotListed, WrongNumber}
use Rattle.aries.specs.declared.block.Block.{Block}
use Rattle.aries.specs.declared.block.Instruction.{Instruction}
use Rattle.aries.specs.declared.block.Kind.{Kind}
use Rattle.aries.specs.declared.block.Kind.TheVariants.{G26, G28, G29, G36, G37, G50, G70, G72, G75, G76, G92, G93, G98, Position, Lone, LetterM, LetterB, LetterU, LetterV, LetterW, G66, G73}
use Rattle.aries.specs.declared.reader.Reader.{Reader}
use Rattle.aries.specs.declared.refusal.Refusal.{Refusal}
use Rattle.aries.specs.Letters.{letter_x, letter_y}
use Rattle.aries.specs.Words.{LetterWord, formed_words, size_of, words}
use Rattle.aries.specs.ByLetter.{Letters, by_letter}
use Rattle.aries.specs.declared.word.Words.{Words}
use Rattle.aries.specs.Forms.{in_places, kind_of, is_listed}
use Rattle.aries.specs.Judging.{farthest, is_near}
use Rattle.aries.specs.Numbers.{in_hundredths, lengths_fit, is_ranged}
use Rattle.aries.specs.Blocks.{number, count, block_of, instruction_of, listed_as, decode_words, decoded, decode}
use Rattle.aries.specs.Steady.{CallNear, CallsNear}
use Rattle.words.proofs.Gathering.{AllFormed, front_formed}
use Rattle.lengths.specs.Sized.{Sized}
use Rattle.lengths.proofs.Sized.{by_letter_sized}
use Rattle.lengths.proofs.Hundredths.{both_pass, hundredths_sized}

-- ---- Blocks

-- X and Y are near where the block is a call that has them
abbrev BlockNear : Block → Type 0
BlockNear (Block.Direct d) = Unit {0}
BlockNear (Block.Outside o) = Unit {0}
BlockNear (Block.Call c) = CallNear c

module _ (w : Letters) (sized : Sized w) where
  value-near : (letter : ℕ) → is_near (number w letter) ≡ true
  value-near letter = le-leb (count w letter) farthest (sized.each letter)

  block_near : (k : Kind) → BlockNear (block_of w k)
  unfolding block_of
  block_near G26 = tt
  block_near G28 = tt
  block_near G29 = tt
  block_near G36 = tt
  block_near G37 = tt
  block_near G66 = tt
  block_near G50 = tt
  block_near G70 = tt
  block_near G72 = tt
  block_near G73 = record { x = value-near letter_x; y = value-near letter_y }
  block_near G75 = tt
  block_near G76 = tt
  block_near G92 = tt
  block_near G93 = tt
  block_near G98 = tt
  block_near Position = tt
  block_near Lone = tt
  block_near LetterM = tt
  block_near LetterB = tt
  block_near LetterU = tt
  block_near LetterV = tt
  block_near LetterW = tt

-- ---- Lines

-- so it is with an instruction, if there is one
abbrev CheckedNear : Result Instruction Refusal → Type 0
CheckedNear (Ok i) = BlockNear i.block
CheckedNear (Err number) = Unit {0}

module _ (r : Reader) where
  -- words past the tests of 5 and 6
  words-near : (ws : List LetterWord) → AllFormed ws → CheckedNear (decode_words r ws)
  unfolding decode_words
  words-near ws f = of_kind (kind_of w)
    where
      w : Words
      w = by_letter ws

      of_kind : (o : Option Kind) → CheckedNear (listed_as r ws o)
      of_kind None = tt
      of_kind (Some k) = go (in_places ws && is_listed r.given w k) (lengths_fit r.setting k w.letters && is_ranged h k) refl
        where
          h : Letters
          h = in_hundredths r.setting k w.letters

          go :
              (t u : Bool) → (lengths_fit r.setting k w.letters && is_ranged h k) ≡ u
              → CheckedNear (cond t (cond u (Ok (instruction_of k w.measure h)) (Err WrongNumber)) (Err NotListed))
          go false u e = tt
          go true false e = tt
          go true true e =
              block_near h (hundredths_sized r.setting k w.letters (by_letter_sized ws f) (both_pass r.setting k w.letters h e).0) k

  line-near : (line : List ℕ) → CheckedNear (decode r line)
  unfolding decode words
  line-near line = go (eqb (size_of (formed_words line)) (length line))
    where
      go : (t : Bool) → CheckedNear (decoded r (cond t (Some (formed_words line)) None))
      go true = words-near (formed_words line) (front_formed (length line) line)
      go false = tt

pub calls_near : CallsNear
calls_near r line i c e f = subst BlockNear f (subst CheckedNear e (line-near r line))
