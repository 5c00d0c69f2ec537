-- Where the numbers and the reach pass, the hits are those of the series, from the start that the state names.
use Rattle.std.specs.Prelude.{Err}
use mathlib.Core.Path.{◌≡◌, sym, ◌∙◌}
use borrow.Author.Rules.{rules}
use Rattle.aries.proofs.InLine.{in_line-mapped}
use Rattle.patterns.proofs.Carrying.{pattern_ran}
use Rattle.patterns.proofs.runs.carry_out.Goals as goal

pub returns-in_err-reached : goal.returns-in_err-reached
returns-in_err-reached c =
    let a = c.args in
    let made = c.punch_pattern-made in
    let told = in_line-mapped a.line made.result c.map_err.result c.map_err.ensures.cases (λ e x q. search rules) in
    let e : c.from_residual.result ≡ Err c.in_err-reached.field-0.0 = search rules in
    rw e
    (rw (sym told ∙ c.in_err-reached.was) at
    (pattern_ran a.frame c.requires a.line a.pattern a.progress.now made.result c.if-not-shear_is_fit.ensures c.if-not-reach_is_near.ensures (rw (c.of.ensures, c.start.ensures) at made.ensures)))

pub returns : goal.returns
returns c =
    let a = c.args in
    let made = c.punch_pattern-made in
    let told = in_line-mapped a.line made.result c.map_err.result c.map_err.ensures.cases (λ e x q. search rules) in
    rw c.standing_at-progress.ensures
    (rw (sym told ∙ c.in_ok-reached.was) at
    (pattern_ran a.frame c.requires a.line a.pattern a.progress.now made.result c.if-not-shear_is_fit.ensures c.if-not-reach_is_near.ensures (rw (c.of.ensures, c.start.ensures) at made.ensures)))
