-- Dropped, and moved.
use Rattle.aries.proofs.state.State.standing_at.Goals as goal

pub returns : goal.returns
returns c = rw (c.moved_to.ensures, c.dropping.ensures)
