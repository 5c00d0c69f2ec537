-- By whether the macro runs; if so, its blocks do, from the first one on.
use mathlib.Core.Path.{refl, sym, ◌∙◌}
use Rattle.aries.specs.Judging.{limits}
use Rattle.aries.specs.Bodies.{first_run}
use Rattle.aries.specs.Setup.{ordinary_frame}
use Rattle.aries.proofs.Carried.{carried_no_entry}
use Rattle.bodies.specs.Stored.{body_of}
use Rattle.storing.proofs.Opening.{runs_not, runs_once}
use Rattle.storing.proofs.first_run.Goals as goal

pub returns-then-not-runs_first : goal.returns-then-not-runs_first
returns-then-not-runs_first c =
    let a = c.args in
    let stored = a.stored in
    carried_no_entry (ordinary_frame a.setup) (λ j. first_run j stored.text.now stored.macros.now a.number (body_of a.body) a.setup) refl refl
    (runs_not (limits a.setup.job) stored.text.now stored.macros.now a.number (body_of a.body) a.setup a.progress.now (sym c.runs_first.ensures ∙ c.if-not-runs_first.true))

pub returns : goal.returns
returns c =
    let a = c.args in
    let stored = a.stored in
    rw (runs_once (limits a.setup.job) stored.text.now stored.macros.now a.number (body_of a.body) a.setup a.progress.now (sym c.runs_first.ensures ∙ c.if-not-runs_first.false))
    (rw (c.start.ensures, c.frame-frame.ensures) at c.run_blocks.ensures)
