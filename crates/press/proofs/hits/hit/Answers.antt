-- Each way out is the definition's, by the tests on the way; a place that is seen in range is not too far away to be a point.
use Rattle.std.specs.Prelude.{Err, Some}
use mathlib.Core.Path.{◌≡◌, refl, sym, ap, ◌∙◌}
use native.Mathlib.Omega.{arith}
use borrow.Author.Rules.{rules}
use Rattle.aries.specs.WidePoints.{point_of}
use Rattle.aries.specs.Mirrors.{seen}
use Rattle.aries.proofs.Steady.{near_within}
use Rattle.aries.proofs.Judging.{near-x, near-y, covers-near}
use Rattle.press.proofs.Punch.{hit_outside, hit_inside, entered_at}
use Rattle.press.proofs.hits.hit.Goals as goal

pub returns-then-not-covers : goal.returns-then-not-covers
returns-then-not-covers c =
    let a = c.args in
    let t : a.tooling.tool ≡ Some c.in_ok-tool.tool = rw c.in_ok-tool.was at c.ok_or.ensures.ok_part in (
      rw (t, c.out_of_range.ensures, c.seen-seen.ensures)
          (hit_outside a.frame (point_of a.place) a.entries (rw c.seen-seen.ensures at c.if-not-covers.ensures)),
      refl,
    )

pub narrow-point-requires : goal.narrow-point-requires
narrow-point-requires c =
    let a = c.args in
    let p = point_of a.place in
    let w = near_within a.frame p c.requires.steady (covers-near a.frame.machine (seen a.frame p) (sym (rw c.seen-seen.ensures at c.if-not-covers.ensures))) in
    (omega (arith, w.0), omega (arith, w.1))

pub narrow-requires : goal.narrow-requires
narrow-requires c =
    let p = point_of c.seen-seen.result in
    let n = covers-near c.args.frame.machine p (sym c.if-not-covers.ensures) in
    (omega (arith, near-x p n), omega (arith, near-y p n))

pub returns-in_err-enter : goal.returns-in_err-enter
returns-in_err-enter c =
    let a = c.args in
    let p = point_of a.place in
    let t : a.tooling.tool ≡ Some c.in_ok-tool.tool = rw c.in_ok-tool.was at c.ok_or.ensures.ok_part in
    let e : c.from_residual-in_err-enter.result ≡ Err c.in_err-enter.field-0.0 = search rules in
    let i = hit_inside a.frame p a.entries (rw c.seen-seen.ensures at c.if-not-covers.ensures) in
    rw (t, e) (ap (entered_at p) (sym c.in_err-enter.was ∙ c.enter.ensures.0) ∙ i, rw c.in_err-enter.was at c.enter.ensures.1)

pub returns : goal.returns
returns c =
    let a = c.args in
    let p = point_of a.place in
    let t : a.tooling.tool ≡ Some c.in_ok-tool.tool = rw c.in_ok-tool.was at c.ok_or.ensures.ok_part in
    let i = hit_inside a.frame p a.entries (rw c.seen-seen.ensures at c.if-not-covers.ensures) in
    rw (t, c.narrow-point.ensures) (
      ap (entered_at p) (sym c.in_ok-enter.was ∙ c.enter.ensures.0) ∙ i,
      rw (c.in_ok-enter.was, c.narrow.ensures ∙ c.seen-seen.ensures) at c.enter.ensures.1,
    )
