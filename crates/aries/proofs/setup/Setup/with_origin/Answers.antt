-- The origin is the one that layout and offset have.

use Rattle.aries.proofs.setup.Setup.with_origin.Goals as goal

pub returns : goal.returns
returns c = rw c.requires
