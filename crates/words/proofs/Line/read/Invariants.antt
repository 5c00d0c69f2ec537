-- The invariant: what is kept are the words before here, which are those of the line up to here; and no more are counted
-- than bytes stand before here.
use mathlib.Core.Path.{◌≡◌}
use mathlib.Core.List.{List}
use Prim.Native.Nat.{ℕ, ◌-◌, ◌≤◌}
use lib.ListN.{length}
use Rattle.aries.specs.Words.{LetterWord}
use Rattle.words.specs.declared.Line.{Line}
use Rattle.words.specs.Line.{line_of}
use Rattle.words.proofs.Gathering.{Goes}
use Rattle.words.proofs.Line.read.Given as goal

-- what is kept once the words before a place are read
pub record Kept (t : List ℕ) (from place : ℕ) (l : Line) : Type 0 where
  pub before : List LetterWord
  pub goes : Goes t from place before
  pub told : l ≡ line_of before
  pub few : l.others ≤ place

abbrev pub invariant-loop-reading : goal.invariant-loop-reading
invariant-loop-reading l = Kept l.text l.from l.at l.self

abbrev pub decreases-loop-reading : goal.decreases-loop-reading
decreases-loop-reading l = length l.text - l.at
