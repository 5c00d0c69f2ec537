-- No sine is larger than one. Every degree is joined with every hundredth in one computed test over the tables' entries, since sizes alone
-- leave room for a sum that is rounded past it.
-- Assumes nothing.
use mathlib.Core.Path.{◌≡◌, refl, sym}
use mathlib.Core.Bool.{Bool, true}
use Prim.Native.Nat.{ℕ, ◌-◌, ◌/◌, ◌%◌, ◌<◌, ◌≤◌}
use native.Mathlib.Omega.{arith}
use lib.Dec.{leb, ltb}
use lib.IntN.{ℤ, pos, nat_abs, ◌-ℤ◌}
use lib.ListN.{get_or}
use borrow.Author.Tests.{leb-true}
use Rattle.signed.proofs.Integers.{abs_with_sign}
use Rattle.sine.specs.Series.{one, degree_sine, hundredth_sine, hundredth_cosine}
use Rattle.sine.specs.Sine.{degree_cosine, joined, quadrant_sine, turn, acute, turn_sine, sine, cosine}
use Rattle.sine.proofs.Table.{every, every-at}
use Rattle.sine.specs.declared.entries.TheConstants.{DEGREE_SINES, HUNDREDTH_SINES, HUNDREDTH_COSINES}
use Rattle.sine.proofs.Tables.{degree_is, hundredth_sine_is, hundredth_cosine_is}
use Rattle.sine.proofs.Angles.{turn_small, acute_small}

-- of an angle's sine and cosine, joined with a hundredth's: the sum is at most one
abbrev small_sum : ℕ → ℕ → ℕ × ℕ → Bool
small_sum sineA cosineA p = leb (joined sineA cosineA p.1 (get_or HUNDREDTH_COSINES p.0 0)) one

-- so for all hundredths, after so many degrees of such a sine
abbrev small_sums : ℕ × ℕ → Bool
small_sums p = every (small_sum p.1 (get_or DEGREE_SINES (90 - p.0) 0)) HUNDREDTH_SINES

-- the one test, over all 9,100 sums
all_small : every small_sums DEGREE_SINES ≡ true
all_small = refl

-- what the test says of a degree and a hundredth
module _ (d h : ℕ) (degrees : d < 91) (hundredths : h < 100) where
  abbrev sine_entry : ℕ
  sine_entry = get_or HUNDREDTH_SINES h 0

  abbrev cosine_entry : ℕ
  cosine_entry = get_or HUNDREDTH_COSINES h 0

  entries-small : joined (get_or DEGREE_SINES d 0) (get_or DEGREE_SINES (90 - d) 0) sine_entry cosine_entry ≤ one
  entries-small =
      leb-true (joined (get_or DEGREE_SINES d 0) (get_or DEGREE_SINES (90 - d) 0) sine_entry cosine_entry) one
      (every-at (small_sum (get_or DEGREE_SINES d 0) (get_or DEGREE_SINES (90 - d) 0)) HUNDREDTH_SINES 0
      (every-at small_sums DEGREE_SINES 0 all_small d degrees) h hundredths)

  sum-small : joined (degree_sine d) (degree_cosine d) (hundredth_sine h) (hundredth_cosine h) ≤ one
  sum-small =
      rw (sym (degree_is d degrees), sym (degree_is (90 - d) (omega arith)), sym (hundredth_sine_is h hundredths), sym (hundredth_cosine_is h hundredths))
      entries-small

-- the first quadrant
pub quadrant_small : (a : ℕ) → a ≤ 9000 → quadrant_sine a ≤ one
unfolding quadrant_sine
quadrant_small a h = sum-small (a / 100) (a % 100) (omega arith) (omega arith)

-- an angle reflected there, and its sine
pub ruleset reflected = (acute_small, quadrant_small)

-- a reduced angle
pub turn_sine-small : (t : ℕ) → t < 36000 → nat_abs (turn_sine t) ≤ one
unfolding turn_sine
turn_sine-small t h =
    rw (abs_with_sign (ltb 18000 t) (quadrant_sine (acute t))) (quadrant_small (acute t) (acute_small t h))

-- every angle
pub sine-small : (a : ℤ) → nat_abs (sine a) ≤ one
unfolding sine
sine-small a = turn_sine-small (turn a) (turn_small a)

-- and its cosine
pub cosine-small : (a : ℤ) → nat_abs (cosine a) ≤ one
unfolding cosine
cosine-small a = sine-small (pos 9000 -ℤ a)
