-- Hit k lies where the cut says; a G66 that was made ends at its start.
use Rattle.std.specs.Prelude.{Err}
use mathlib.Core.Path.{◌≡◌, ap, ◌∙◌}
use native.Mathlib.Omega.{arith}
use mir.Syntax.{w32}
use mir.Val.{SFits}
use borrow.Author.Rules.{rules}
use Rattle.aries.specs.declared.point.Point.{Point}
use Rattle.aries.specs.declared.block.Pattern.TheVariants.{Shear}
use Rattle.aries.specs.Moves.{◌⊕◌}
use Rattle.aries.specs.Patterns.{hit_count}
use Rattle.aries.specs.Runs.{lent}
use Rattle.aries.specs.WidePoints.{point_of}
use Rattle.shears.specs.declared.places.Cut.{Cut}
use Rattle.shears.specs.Cuts.{cut_offset, Bounded}
use Rattle.shears.proofs.Cuts.{cut_bounded}
use Rattle.patterns.specs.Series.{begun, Comes, series}
use Rattle.patterns.proofs.Comes.{at_start, series_ended}
use Rattle.patterns.proofs.Offsets.{offset-shear}
use Rattle.patterns.proofs.series.Series.punch_shear.Goals.{After-punch_each}
use Rattle.patterns.proofs.series.Series.punch_shear.Goals as goal

pub punch_each-requires-clause-callable : goal.punch_each-requires-clause-callable
punch_each-requires-clause-callable c =
    λ k less.
    let a = c.args in
    let length-fits : SFits w32 a.lengths.length = search rules in
    let across-fits : SFits w32 a.lengths.across = search rules in
    let compensation-fits : SFits w32 a.lengths.compensation = search rules in
    let hits = ap (λ (cut : Cut). cut.hits) c.prepare-cut.ensures in
    let bounded : Bounded c.prepare-cut.result k =
    rw c.prepare-cut.ensures (cut_bounded a.lengths length-fits across-fits compensation-fits c.requires a.angle k (omega arith)) in
    search rules

ends : (c : After-punch_each) → let a = c.args in
    Comes (at_start a.self.start c.punch_each.result) a.self (begun a.self) (lent a.list.now) (lent c.punch_each.new.list) (series a.self (Shear a.angle a.lengths))
unfolding hit_count
ends c =
    let a = c.args in
    let p = Shear a.angle a.lengths in
    series_ended a.self p c.punch_each.result (ap (λ (cut : Cut). cut.hits) c.prepare-cut.ensures)
    (c.punch_each.ensures p (λ k w less placed.
    let q : point_of w ≡ a.self.start ⊕ cut_offset c.prepare-cut.result k = search rules in
    q ∙ ap (λ (cut : Cut). a.self.start ⊕ cut_offset cut k) c.prepare-cut.ensures
    ∙ ap (λ (o : Point). a.self.start ⊕ o) (offset-shear a.angle a.lengths c.requires k)))

pub returns-in_err-edge : goal.returns-in_err-edge
returns-in_err-edge c =
    let e : c.from_residual.result ≡ Err c.in_err-edge.field-0.0 = search rules in
    rw e (rw c.in_err-edge.was at (ends (goal.at.returns-in_err-edge c).After-punch_each))

pub returns : goal.returns
returns c = rw c.back_at.ensures (rw c.in_ok-edge.was at (ends (goal.at.returns c).After-punch_each))
