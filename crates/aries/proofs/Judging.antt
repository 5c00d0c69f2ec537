-- Laws of what is judged of a point.
use mathlib.Core.Path.{◌≡◌, refl}
use mathlib.Core.Bool.{true, false, ◌&&◌}
use Prim.Native.Nat.{suc, ◌≤◌}
use native.Mathlib.Omega.{arith}
use lib.Dec.{leb}
use lib.IntN.{ℤ, pos, negsuc, nat_abs}
use lib.Signed.{le_z}
use borrow.Author.Tests.{leb-true, le-leb}
use Rattle.signed.proofs.Tests.{and_left, and_right, and_intro}
use Rattle.aries.specs.declared.point.Point.{Point}
use Rattle.aries.specs.declared.machine.Machine.{Machine}
use Rattle.aries.specs.declared.machine.Machine.TheVariants.{Aries222, Aries224}
use Rattle.aries.specs.Machine.{least_end, right_end, top_end, covers}
use Rattle.aries.specs.Judging.{is_near, near, farthest}

-- a near point's coordinates, in size
pub near-x : (p : Point) → near p ≡ true → nat_abs p.x ≤ farthest
unfolding near
near-x p e = leb-true (nat_abs p.x) farthest (and_left (is_near p.x) (is_near p.y) e)

pub near-y : (p : Point) → near p ≡ true → nat_abs p.y ≤ farthest
unfolding near
near-y p e = leb-true (nat_abs p.y) farthest (and_right (is_near p.x) (is_near p.y) e)

-- both coordinates of a near point are near
pub near_both : (p : Point) → near p ≡ true → (is_near p.x ≡ true) × (is_near p.y ≡ true)
unfolding near
near_both p e = (and_left (is_near p.x) (is_near p.y) e, and_right (is_near p.x) (is_near p.y) e)

-- the punching range lies within the limit of 15: its right end does,
right_near : (m : Machine) → is_near (right_end m) ≡ true
right_near Aries222 = refl
right_near Aries224 = refl

-- and what is between two near numbers is near,
between_near : (z low high : ℤ) → is_near low ≡ true → is_near high ≡ true → (le_z low z && le_z z high) ≡ true → is_near z ≡ true
between_near (pos a) low (pos n) l h e =
    let below = leb-true a n (and_right (le_z low (pos a)) (leb a n) e) in
    let end = leb-true n farthest h in
    le-leb a farthest (omega arith)
between_near (pos a) low (negsuc n) l h e = let no = and_right (le_z low (pos a)) false e in cc
between_near (negsuc a) (pos n) high l h e = cc
between_near (negsuc a) (negsuc n) high l h e =
    let above = leb-true a n (and_left (leb a n) (le_z (negsuc a) high) e) in
    let end = leb-true (suc n) farthest l in
    le-leb (suc a) farthest (omega arith)

-- so that what a machine covers is near
pub covers-near : (m : Machine) (p : Point) → covers m p ≡ true → near p ≡ true
unfolding covers near
covers-near m p e =
    let inX = (le_z least_end p.x && le_z p.x (right_end m)) in
    let inY = (le_z least_end p.y && le_z p.y top_end) in
    and_intro (is_near p.x) (is_near p.y)
    (between_near p.x least_end (right_end m) refl (right_near m) (and_left inX inY e))
    (between_near p.y least_end top_end refl refl (and_right inX inY e))
