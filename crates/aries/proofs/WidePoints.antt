-- Laws of `located`: what 15 made of a point, by the answer.
use Rattle.std.specs.Prelude.{None, Some}
use mathlib.Core.Path.{◌≡◌, refl, sym}
use mathlib.Core.Bool.{Bool, true, false, cond}
use Prim.Native.Nat.{ℕ}
use native.Mathlib.Omega.{arith}
use Rattle.aries.specs.declared.point.Point.{Point}
use Rattle.aries.specs.Judging.{near}
use Rattle.aries.specs.WidePoints.{located}

-- a point that came through a test is the one that was tested
pub at-passed : (t : Bool) (p : Point) {q : Point} → cond t (Some p) None ≡ Some q → (t ≡ true) × (q ≡ p)
at-passed true p e = (refl, cc)
at-passed false p e = let z : ◌≡◌ {A = ℕ} 0 1 = cc in absurd (omega arith)

-- and where none did, the test failed
pub far_failed : (t : Bool) (p : Point) → cond t (Some p) None ≡ None → t ≡ false
far_failed true p e = let z : ◌≡◌ {A = ℕ} 0 1 = cc in absurd (omega arith)
far_failed false p e = refl

-- a point that is in the answer is the one judged, and near
pub located-at : (p q : Point) → Some q ≡ located p → (near p ≡ true) × (q ≡ p)
located-at p q e = at-passed (near p) p (sym e)

-- and where none is, it is too far away
pub located_far : (p : Point) → None ≡ located p → near p ≡ false
located_far p e = far_failed (near p) p (sym e)
