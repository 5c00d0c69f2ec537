-- Laws of how far patterns reach.
use mathlib.Core.Path.{◌≡◌}
use mathlib.Core.Bool.{true}
use Prim.Native.Nat.{ℕ, ◌≤◌}
use native.Mathlib.Nat.{mul-le-mul, le_trans, le_refl}
use lib.IntN.{ℤ, pos, nat_abs, ◌*ℤ◌}
use borrow.Author.Tests.{leb-true, le-leb}
use Rattle.signed.proofs.Integers.{abs-*ℤ}
use Rattle.aries.specs.Judging.{is_near, farthest}

-- a near coordinate, in size
pub near-size : (z : ℤ) → is_near z ≡ true → nat_abs z ≤ farthest
near-size z e = leb-true (nat_abs z) farthest e

-- where the farthest hit of a line is near, each is
pub nearer : (n count : ℕ) (pitch : ℤ) → n ≤ count → is_near (pos count *ℤ pitch) ≡ true → is_near (pos n *ℤ pitch) ≡ true
nearer n count pitch h e = le-leb (nat_abs (pos n *ℤ pitch)) farthest (le_trans shorter (near-size (pos count *ℤ pitch) e))
  where
    shorter : nat_abs (pos n *ℤ pitch) ≤ nat_abs (pos count *ℤ pitch)
    shorter = rw (abs-*ℤ (pos n) pitch, abs-*ℤ (pos count) pitch) (mul-le-mul h (le_refl (nat_abs pitch)))
