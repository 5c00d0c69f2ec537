-- Each axis is the callee's fraction, rounded once.
use mathlib.Core.Path.{◌≡◌, ap, ap₂, ◌∙◌}
use borrow.Author.Rules.{rules}
use lib.IntN.{pos, ◌-ℤ◌, ◌+ℤ◌}
use mir.Syntax.{w32, w64}
use mir.Val.{SFits, to_z, of_z}
use mir.Facts.{to_z-of_z}
use Rattle.aries.specs.declared.point.Point.{Point}
use Rattle.aries.specs.Moves.{◌⊕◌, point_at}
use Rattle.signed.proofs.Integers.{read_back}
use Rattle.shears.proofs.Cuts.{along_reduced, place_is}
use Rattle.shears.proofs.places.Cut.place.Goals as goal

pub offset-offset_x-requires-clause-reduced : goal.offset-offset_x-requires-clause-reduced
offset-offset_x-requires-clause-reduced c = rw c.along-along.ensures (along_reduced c.args.self c.args.k c.requires)

pub offset-offset_y-requires-clause-reduced : goal.offset-offset_y-requires-clause-reduced
offset-offset_y-requires-clause-reduced c = rw c.along-along.ensures (along_reduced c.args.self c.args.k c.requires)

pub returns-clause-result_value : goal.returns-clause-result_value
returns-clause-result_value c =
    let cosine-back : to_z w32 (of_z w32 c.args.self.direction.cosine) ≡ c.args.self.direction.cosine = search rules in
    let sine-back : to_z w32 (of_z w32 c.args.self.direction.sine) ≡ c.args.self.direction.sine = search rules in
    let x-back : to_z w32 (of_z w32 c.args.start.x) ≡ c.args.start.x = search rules in
    let y-back : to_z w32 (of_z w32 c.args.start.y) ≡ c.args.start.y = search rules in
    let opposite : SFits w32 (pos 0 -ℤ c.args.self.direction.sine) = search rules in
    let offset-x = simp (cosine-back, sine-back, to_z-of_z opposite) at c.offset-offset_x.ensures.value in
    let offset-y = simp (cosine-back, sine-back) at c.offset-offset_y.ensures.value in
    let x-moved = read_back w64 c.moved.result c.moved.type_inv ∙ c.moved.ensures ∙ ap₂ ◌+ℤ◌ x-back (read_back w64 c.offset-offset_x.result c.offset-offset_x.type_inv) in
    let y-moved = read_back w64 c.moved-2.result c.moved-2.type_inv ∙ c.moved-2.ensures ∙ ap₂ ◌+ℤ◌ y-back (read_back w64 c.offset-offset_y.result c.offset-offset_y.type_inv) in
    ap₂ point_at x-moved y-moved
    ∙ ap (λ (p : Point). c.args.start ⊕ p) (place_is c.args.self c.args.k c.along-along.ensures offset-x offset-y)
