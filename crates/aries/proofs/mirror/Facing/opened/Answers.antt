-- The choice is the definition's.
use mir.Facts.{to_z-of_z}
use Rattle.aries.proofs.mirror.Facing.opened.Goals as goal

pub returns-then-flips : goal.returns-then-flips
returns-then-flips c = simp c.if-flips.true (simp (to_z-of_z c.ranges.a) at c.flipped_at.ensures)

pub returns-else-flips : goal.returns-else-flips
returns-else-flips c = simp c.if-flips.false
