-- The invariant: the size is that of the lines passed and of what follows from here.
use Prim.Native.Nat.{◌-◌, ◌≤◌}
use lib.ListN.{length}
use Rattle.storing.proofs.Sizes.{From}
use Rattle.storing.proofs.body_size.Given as goal

abbrev pub invariant-loop-first : goal.invariant-loop-first
invariant-loop-first l = (l.from ≤ l.at) × From l.reader l.number l.text l.from l.at

abbrev pub decreases-loop-first : goal.decreases-loop-first
decreases-loop-first l = length l.text - l.at
