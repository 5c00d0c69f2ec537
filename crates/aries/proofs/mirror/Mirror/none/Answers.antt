-- Both axes are straight.
use Rattle.aries.proofs.mirror.Mirror.none.Goals as goal

pub returns : goal.returns
returns c = rw c.straight-straight.ensures
