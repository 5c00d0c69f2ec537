-- Each way out is the definition's, by the tests on the way, whatever is lent; an end that is seen in range is not too far away
-- to be a point.
use mathlib.Core.Path.{sym, ap, ◌∙◌}
use native.Mathlib.Omega.{arith}
use Rattle.aries.specs.WidePoints.{point_of}
use Rattle.aries.specs.Mirrors.{seen}
use Rattle.aries.proofs.Steady.{near_within}
use Rattle.aries.proofs.Judging.{covers-near}
use Rattle.press.proofs.Ends.{move_outside, move_inside}
use Rattle.press.proofs.moves.move_to.Goals as goal

pub returns-then-not-covers : goal.returns-then-not-covers
returns-then-not-covers c =
    λ l.
    let a = c.args in
    let e = c.seen-seen.ensures ∙ ap (seen a.frame) c.target-place.ensures.result_value in
    rw (c.at.ensures, c.out_of_range.ensures, e) (move_outside a.frame a.line a.axes a.tool a.progress.now (rw e at c.if-not-covers.ensures))

pub narrow-end-requires : goal.narrow-end-requires
narrow-end-requires c =
    let a = c.args in
    let p = point_of c.target-place.result in
    let w = near_within a.frame p c.requires (covers-near a.frame.machine (seen a.frame p) (sym (rw c.seen-seen.ensures at c.if-not-covers.ensures))) in
    (omega (arith, w.0), omega (arith, w.1))

pub returns : goal.returns
returns c =
    λ l.
    let a = c.args in
    let e = c.seen-seen.ensures ∙ ap (seen a.frame) c.target-place.ensures.result_value in
    rw (c.standing_at-progress.ensures, c.choosing.ensures, c.narrow-end.ensures, c.target-place.ensures.result_value)
    (move_inside a.frame a.line a.axes a.tool a.progress.now (rw e at c.if-not-covers.ensures))
