-- Laws of offsets: where hit k lies, as the code computes it.
use mathlib.Core.Path.{◌≡◌, refl}
use mathlib.Core.Bool.{Bool, true}
use Prim.Native.Nat.{ℕ, ◌+◌, ◌*◌, ◌/◌, ◌≤◌, ◌<◌}
use native.Mathlib.Nat.{div-le_of_le-mul}
use native.Mathlib.Omega.{arith}
use native.Mathlib.Numerals.{add-one}
use lib.IntN.{ℤ, pos, ◌+ℤ◌, ◌*ℤ◌}
use Rattle.sine.specs.Sine.{direction_of}
use Rattle.aries.specs.declared.block.Shear.{Shear}
use Rattle.aries.specs.declared.block.Pattern.TheVariants as pattern
use Rattle.aries.specs.Patterns.{polar, circle_angle, hit_offset}
use Rattle.aries.specs.Shear.{is_fit}
use Rattle.shears.specs.Cuts.{cut_of, cut_offset}
use Rattle.shears.proofs.Cuts.{offset_is}
use Rattle.patterns.specs.Offsets.{toward}

-- an offset by the direction of an angle
pub toward-polar : (distance angle : ℤ) → toward distance (direction_of angle) ≡ polar distance angle
unfolding polar direction_of
toward-polar distance angle = refl

-- hit k of a line
pub offset-line : (pitch angle : ℤ) (count k : ℕ) → toward (pos (k + 1) *ℤ pitch) (direction_of angle) ≡ hit_offset (pattern.Line pitch angle count) k
unfolding hit_offset polar direction_of
offset-line pitch angle count k = rw add-one

-- of an arc
pub offset-arc : (radius angle step : ℤ) (count k : ℕ) → polar radius (angle +ℤ (pos k *ℤ step)) ≡ hit_offset (pattern.Arc radius angle step count) k
unfolding hit_offset
offset-arc radius angle step count k = refl

-- of a circle
pub offset-circle : (radius angle : ℤ) (clockwise : Bool) (count k : ℕ)
    → polar radius (circle_angle angle clockwise count k) ≡ hit_offset (pattern.Circle radius angle clockwise count) k
unfolding hit_offset
offset-circle radius angle clockwise count k = refl

-- a part of the circle is at most a full turn
pub turned-small : (n k : ℕ) → k < n → n < 65536 → (72000 * k + n) / (2 * n) ≤ 36000
turned-small n k h s = div-le_of_le-mul (2 * n) (omega arith)

-- and of a G66
pub offset-shear : (angle : ℕ) (lengths : Shear) → is_fit lengths ≡ true → (k : ℕ) → cut_offset (cut_of angle lengths) k ≡ hit_offset (pattern.Shear angle lengths) k
unfolding hit_offset
offset-shear angle lengths fit k = offset_is angle lengths fit k
