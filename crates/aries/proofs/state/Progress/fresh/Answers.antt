-- The state is fresh.
use mathlib.Core.Path.{ap}
use Rattle.aries.specs.declared.state.State.{State}
use Rattle.aries.specs.declared.state.Progress.{Progress}
use Rattle.aries.proofs.state.Progress.fresh.Goals as goal

abbrev progress : State → Progress
progress s = record { state = s; blocks = 0; entries = 0 }

pub returns : goal.returns
returns c = ap progress c.fresh-state.ensures
