-- The direction of the angle leads where the angle does.
use mathlib.Core.Path.{ap, ◌∙◌}
use mir.Facts.{to_z-of_z}
use Rattle.aries.specs.declared.point.Point.{Point}
use Rattle.aries.specs.Moves.{◌⊕◌}
use Rattle.patterns.proofs.Offsets.{toward-polar}
use Rattle.patterns.proofs.places.arc_place.Goals as goal

pub returns-clause-result_value : goal.returns-clause-result_value
returns-clause-result_value c =
    let a = c.args in
    (simp (c.direction_of.ensures, to_z-of_z c.ranges.radius, to_z-of_z c.ranges.angle) at c.polar_place.ensures.result_value)
    ∙ ap (λ (p : Point). a.start ⊕ p) (toward-polar a.radius a.angle)
