-- The invariant: what was copied, followed by the rest without its spaces, is the text without its spaces.
use mathlib.Core.Path.{◌≡◌}
use mathlib.Core.List.{◌++◌}
use Prim.Native.Nat.{◌≤◌}
use lib.ListN.{length, take, drop}
use Rattle.aries.specs.Text.{without_spaces}
use Rattle.text.proofs.copy_without_spaces.Given as goal

abbrev pub invariant-loop-b : goal.invariant-loop-b
invariant-loop-b l = record {
  within : l.n ≤ l.b-index;
  same_room : length l.buffer ≡ length l.initial.buffer;
  dense : take l.n l.buffer ++ without_spaces (drop l.b-index l.text) ≡ without_spaces l.text;
}
