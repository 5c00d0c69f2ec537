-- The law of `Orders`.
use Rattle.aries.proofs.Orders.{equal_exactly_when}
use Rattle.aries.proofs.theorems.equal_exactly_when.Goals as goal

pub returns : goal.returns
returns c = equal_exactly_when
