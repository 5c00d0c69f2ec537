-- The law of `Tools`.
use Rattle.aries.proofs.Tools.{tools_named}
use Rattle.aries.proofs.theorems.tools_named.Goals as goal

pub returns : goal.returns
returns c = tools_named
