-- Each stop has its number.

use Rattle.aries.proofs.entry.stop_number.Goals as goal

pub returns-then-optional : goal.returns-then-optional
returns-then-optional c = simp c.if-optional.true

pub returns-else-optional : goal.returns-else-optional
returns-else-optional c = simp c.if-optional.false
