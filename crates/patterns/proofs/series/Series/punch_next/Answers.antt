-- What is judged of the hit, whatever the line and the rest of the progress.
use Rattle.std.specs.Prelude.{Err}
use mathlib.Core.Path.{◌≡◌, refl, sym, ◌∙◌}
use native.Mathlib.Omega.{arith}
use borrow.Author.Rules.{rules}
use Rattle.aries.specs.WidePoints.{point_of}
use Rattle.press.proofs.Punch.{hit-fits, punch_ran}
use Rattle.patterns.specs.Series.{come}
use Rattle.patterns.proofs.series.Series.punch_next.Goals as goal

pub returns-in_err-current : goal.returns-in_err-current
returns-in_err-current c =
    λ line g.
    let a = c.args in
    let e : c.from_residual.result ≡ Err c.in_err-current.field-0.0 = search rules in
    rw e (rw c.in_err-current.was at (punch_ran a.self.frame line (point_of a.place) (come g a.self.tooling a.from) c.hit.result refl c.hit.ensures.0 c.hit.ensures.1))

pub overflow_add-result : goal.overflow_add-result
overflow_add-result c =
    let a = c.args in
    omega (arith, hit-fits a.self.frame (point_of a.place) a.self.tooling.tool a.from.entries c.in_ok-current.current (sym c.in_ok-current.was ∙ c.hit.ensures.0))

pub returns : goal.returns
returns c =
    λ line g.
    let a = c.args in
    rw c.in_ok-current.was at (punch_ran a.self.frame line (point_of a.place) (come g a.self.tooling a.from) c.hit.result refl c.hit.ensures.0 c.hit.ensures.1)
