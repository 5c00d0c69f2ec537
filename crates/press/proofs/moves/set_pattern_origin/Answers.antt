-- The point that 15 finds waits, whatever is lent.
use mathlib.Core.Path.{sym, ap, ◌∙◌}
use Rattle.aries.specs.WidePoints.{located}
use Rattle.press.proofs.Ends.{origin_near}
use Rattle.press.proofs.moves.set_pattern_origin.Goals as goal

pub returns : goal.returns
returns c =
    λ l.
    let a = c.args in
    rw c.waiting_at-progress.ensures
    (origin_near a.frame a.line a.axes a.progress.now (sym c.in_ok-origin.ensures.ok_part ∙ c.located.ensures ∙ ap located c.target-place.ensures.result_value))
