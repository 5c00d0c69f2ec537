-- Hit k lies k steps on.
use mathlib.Core.Path.{◌≡◌, ap, ◌∙◌}
use borrow.Author.Rules.{rules}
use lib.IntN.{pos, ◌+ℤ◌, ◌*ℤ◌}
use Rattle.aries.specs.declared.point.Point.{Point}
use Rattle.aries.specs.declared.block.Pattern.TheVariants.{Arc}
use Rattle.aries.specs.Moves.{◌⊕◌}
use Rattle.aries.specs.Patterns.{polar, hit_count}
use Rattle.aries.specs.WidePoints.{point_of}
use Rattle.patterns.proofs.Comes.{series_ended}
use Rattle.patterns.proofs.Offsets.{offset-arc}
use Rattle.patterns.proofs.series.Series.punch_arc.Goals as goal

pub returns : goal.returns
unfolding hit_count
returns c =
    let a = c.args in
    let p = Arc a.radius a.angle a.step a.count in
    series_ended a.self p c.punch_each.result c.from.ensures
    (c.punch_each.ensures p (λ k w less placed.
    let q : point_of w ≡ a.self.start ⊕ polar a.radius (a.angle +ℤ (pos k *ℤ a.step)) = search rules in
    q ∙ ap (λ (o : Point). a.self.start ⊕ o) (offset-arc a.radius a.angle a.step a.count k)))
