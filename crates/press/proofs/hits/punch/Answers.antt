-- What is judged of the hit, with the number of the line.
use Rattle.std.specs.Prelude.{Err}
use mathlib.Core.Path.{◌≡◌, sym, ◌∙◌}
use native.Mathlib.Omega.{arith}
use borrow.Author.Rules.{rules}
use Rattle.aries.specs.WidePoints.{point_of}
use Rattle.press.proofs.Punch.{punch_ran, hit-fits}
use Rattle.aries.proofs.InLine.{in_line-mapped, made_in_line}
use Rattle.press.proofs.hits.punch.Goals as goal

pub returns-in_err-current : goal.returns-in_err-current
returns-in_err-current c =
    let a = c.args in
    let told = in_line-mapped a.line c.hit-judged.result c.map_err.result c.map_err.ensures.cases (λ e x q. search rules) in
    let e : c.from_residual.result ≡ Err c.in_err-current.field-0.0 = search rules in
    rw e
    (rw (sym told ∙ c.in_err-current.was) at
    (punch_ran a.frame a.line (point_of a.place) a.progress.now c.hit-judged.result c.of-tooling.ensures c.hit-judged.ensures.0 c.hit-judged.ensures.1))

pub overflow_add-progress : goal.overflow_add-progress
overflow_add-progress c =
    let a = c.args in
    let told = in_line-mapped a.line c.hit-judged.result c.map_err.result c.map_err.ensures.cases (λ e x q. search rules) in
    let made = made_in_line a.line c.hit-judged.result (sym told ∙ c.in_ok-current.was) in
    omega (arith, hit-fits a.frame (point_of a.place) c.of-tooling.result.tool a.progress.now.entries c.in_ok-current.current (sym made ∙ c.hit-judged.ensures.0))

pub returns : goal.returns
returns c =
    let a = c.args in
    let told = in_line-mapped a.line c.hit-judged.result c.map_err.result c.map_err.ensures.cases (λ e x q. search rules) in
    rw c.moved_to-progress.ensures
    (rw (sym told ∙ c.in_ok-current.was) at
    (punch_ran a.frame a.line (point_of a.place) a.progress.now c.hit-judged.result c.of-tooling.ensures c.hit-judged.ensures.0 c.hit-judged.ensures.1))
