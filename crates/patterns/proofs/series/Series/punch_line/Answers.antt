-- Hit k lies k + 1 pitches from the start.
use mathlib.Core.Path.{◌≡◌, ap, ◌∙◌}
use mathlib.Core.Bool.{true}
use Prim.Native.Nat.{◌+◌}
use native.Mathlib.Omega.{arith}
use borrow.Author.Rules.{rules}
use lib.IntN.{pos, ◌*ℤ◌}
use Rattle.sine.specs.Sine.{direction_of}
use Rattle.aries.specs.declared.point.Point.{Point}
use Rattle.aries.specs.declared.block.Pattern.TheVariants.{Line}
use Rattle.aries.specs.Judging.{is_near}
use Rattle.aries.specs.Moves.{◌⊕◌}
use Rattle.aries.specs.Patterns.{hit_count}
use Rattle.aries.specs.WidePoints.{point_of}
use Rattle.patterns.specs.Offsets.{toward}
use Rattle.patterns.proofs.Comes.{series_ended}
use Rattle.patterns.proofs.Holes.{nearer}
use Rattle.patterns.proofs.Offsets.{offset-line}
use Rattle.patterns.proofs.series.Series.punch_line.Goals as goal

pub punch_each-requires-clause-callable : goal.punch_each-requires-clause-callable
punch_each-requires-clause-callable c =
    λ k less.
    let a = c.args in
    let near : is_near (pos (k + 1) *ℤ a.pitch) ≡ true = nearer (k + 1) a.count a.pitch (omega (arith, c.from-2.ensures)) c.requires in
    search rules

pub returns : goal.returns
unfolding hit_count
returns c =
    let a = c.args in
    let p = Line a.pitch a.angle a.count in
    series_ended a.self p c.punch_each.result c.from-2.ensures
    (c.punch_each.ensures p (λ k w less placed.
    let q : point_of w ≡ a.self.start ⊕ toward (pos (k + 1) *ℤ a.pitch) (direction_of a.angle) = search rules in
    q ∙ ap (λ (o : Point). a.self.start ⊕ o) (offset-line a.pitch a.angle a.count k)))
