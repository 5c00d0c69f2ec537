-- The state is measured, and the count of blocks is one more where the block counts.
use Prim.Native.Nat.{◌<◌}
use native.Mathlib.Omega.{arith}
use Rattle.aries.proofs.state.Progress.begun.Goals as goal

pub overflow_add-self : goal.overflow_add-self
overflow_add-self c =
    let entry = c.before.before.before.before in
    let h : entry.args.self.blocks < 100000 = entry.requires c.if-counted.true in
    omega arith

pub returns-then-counted : goal.returns-then-counted
returns-then-counted c = simp (c.if-counted.true, c.measuring-measured.ensures)

pub returns-else-counted : goal.returns-else-counted
returns-else-counted c = simp (c.if-counted.false, c.measuring-measured.ensures)
