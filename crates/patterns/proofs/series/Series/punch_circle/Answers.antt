-- Hit k lies at the k-th part of a full turn; a circle that was made ends at its start.
use Rattle.std.specs.Prelude.{Err}
use mathlib.Core.Path.{◌≡◌, ap, ◌∙◌}
use borrow.Author.Rules.{rules}
use Rattle.aries.specs.declared.point.Point.{Point}
use Rattle.aries.specs.declared.block.Pattern.TheVariants.{Circle}
use Rattle.aries.specs.Moves.{◌⊕◌}
use Rattle.aries.specs.Patterns.{polar, circle_angle, hit_count}
use Rattle.aries.specs.Runs.{lent}
use Rattle.aries.specs.WidePoints.{point_of}
use Rattle.patterns.specs.Series.{begun, Comes, series}
use Rattle.patterns.proofs.Comes.{at_start, series_ended}
use Rattle.patterns.proofs.Offsets.{offset-circle}
use Rattle.patterns.proofs.series.Series.punch_circle.Goals.{After-punch_each}
use Rattle.patterns.proofs.series.Series.punch_circle.Goals as goal

ends : (c : After-punch_each) → let a = c.args in
    Comes (at_start a.self.start c.punch_each.result) a.self (begun a.self) (lent a.list.now) (lent c.punch_each.new.list) (series a.self (Circle a.radius a.angle a.clockwise a.count))
unfolding hit_count
ends c =
    let a = c.args in
    let p = Circle a.radius a.angle a.clockwise a.count in
    series_ended a.self p c.punch_each.result c.from.ensures
    (c.punch_each.ensures p (λ k w less placed.
    let q : point_of w ≡ a.self.start ⊕ polar a.radius (circle_angle a.angle a.clockwise a.count k) = search rules in
    q ∙ ap (λ (o : Point). a.self.start ⊕ o) (offset-circle a.radius a.angle a.clockwise a.count k)))

pub returns-in_err-circle : goal.returns-in_err-circle
returns-in_err-circle c =
    let e : c.from_residual.result ≡ Err c.in_err-circle.field-0.0 = search rules in
    rw e (rw c.in_err-circle.was at (ends (goal.at.returns-in_err-circle c).After-punch_each))

pub returns : goal.returns
returns c = rw c.back_at.ensures (rw c.in_ok-circle.was at (ends (goal.at.returns c).After-punch_each))
