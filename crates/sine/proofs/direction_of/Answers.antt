-- Cosine and sine as in the functions of these names, from one reduced angle.
use mathlib.Core.Path.{ap₂}
use native.Mathlib.Omega.{arith}
use lib.IntN.{ℤ}
use Rattle.std.proofs.lemmas.Int.{to_z-of_z}
use Rattle.sine.specs.Sine.{direction_of, sine}
use Rattle.sine.specs.declared.Direction.{Direction}
use Rattle.sine.proofs.Angles.{cosine_complement}
use Rattle.sine.proofs.direction_of.Goals as goal

pub returns : goal.returns
unfolding direction_of sine
returns c =
    ap₂ (λ (x y : ℤ). let d : Direction = record { cosine = x; sine = y } in d)
    (grind (arith, to_z-of_z, cosine_complement c.args.angle)) (grind (arith, to_z-of_z))
