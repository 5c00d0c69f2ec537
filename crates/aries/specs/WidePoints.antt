-- A place as the code computes it, as the point that it is.
use Rattle.std.specs.Prelude.{cond, ◌≤◌, nat_abs, Option, None, Some}
use Rattle.signed.specs.Signed.{wide_limit}
use Rattle.aries.specs.declared.point.Point.{Point}
use Rattle.aries.specs.declared.point.WidePoint.{WidePoint}
use Rattle.aries.specs.Judging.{near}

abbrev pub point_of : WidePoint → Point
point_of p = record { x = p.x; y = p.y }

-- a place as blocks name it, before 15 judges it: within 64 bits by so much that it can be seen in mirrors
pub record Moderate (p : WidePoint) : Type 0 where
  pub x : nat_abs p.x ≤ wide_limit
  pub y : nat_abs p.y ≤ wide_limit

-- what 15 makes of a point
abbrev pub located : Point → Option Point
located p = cond (near p) (Some p) None
