-- Laws of angles: their reduction to a full turn, the complement, reflection into the first quadrant, and what sine and cosine take of them.
-- Assumes nothing.
use mathlib.Core.Path.{◌≡◌, refl, sym, ap, ◌∙◌}
use mathlib.Core.Bool.{Bool, true, false, cond}
use Prim.Native.Nat.{ℕ, zero, suc, ◌+◌, ◌-◌, ◌%◌, ◌<◌, ◌≤◌}
use native.Mathlib.Omega.{arith}
use lib.Dec.{leb, ltb}
use lib.IntN.{ℤ, pos, negsuc, neg_ℤ, sub_ℕ, ◌+ℤ◌, ◌-ℤ◌}
use lib.Signed.{lt_z, rem_z}
use borrow.Author.Tests.{leb-true, leb-false, ltb-true, ltb-false, le-leb, lt-leb, le-ltb}
use Rattle.sine.specs.Sine.{turn, acute, turn_sine, sine, cosine}

-- ---- the full turn

-- a reduced angle is below a full turn
pub turn_small : (a : ℤ) → turn a < 36000
unfolding turn
turn_small (pos n) = omega arith
turn_small (negsuc n) = omega arith

-- a reduced angle stays
pub turn_reduced : (t : ℕ) → t < 36000 → turn (pos t) ≡ t
unfolding turn
turn_reduced t h = omega arith

-- the difference of two naturals
turn_difference : (m n : ℕ) → turn (sub_ℕ m (suc n)) ≡ (m % 36000 + (35999 - n % 36000)) % 36000
unfolding turn
turn_difference m n = go (ltb m (suc n)) refl
  where
    go : (t : Bool) → ltb m (suc n) ≡ t → turn (cond t (negsuc (suc n - suc m)) (pos (m - suc n))) ≡ (m % 36000 + (35999 - n % 36000)) % 36000
    go true e = omega (arith, ltb-true m (suc n) e)
    go false e = omega (arith, ltb-false m (suc n) e)

-- a sum of angles
pub turn_add : (a b : ℤ) → turn (a +ℤ b) ≡ (turn a + turn b) % 36000
unfolding turn
turn_add (pos m) (pos n) = omega arith
turn_add (pos m) (negsuc n) = turn_difference m n
turn_add (negsuc m) (pos n) = omega (arith, turn_difference n m)
turn_add (negsuc m) (negsuc n) = omega arith

-- the opposite angle
pub turn_neg : (a : ℤ) → turn (neg_ℤ a) ≡ (36000 - turn a) % 36000
unfolding turn
turn_neg (pos zero) = refl
turn_neg (pos (suc n)) = omega arith
turn_neg (negsuc n) = omega arith

-- a full turn
turn-whole : turn (pos 36000) ≡ 0
unfolding turn
turn-whole = refl

-- a turn more
pub turn_period : (a : ℤ) → turn (a +ℤ pos 36000) ≡ turn a
turn_period a = omega (arith, turn_add a (pos 36000), turn_small a, turn-whole)

-- ---- division by a full turn; the remainder has the angle's sign

-- a remainder below zero lacks a turn
pub turn_below : (a : ℤ) → lt_z (rem_z a (pos 36000)) (pos 0) ≡ true → rem_z a (pos 36000) +ℤ pos 36000 ≡ pos (turn a)
unfolding turn
turn_below (pos n) e = absurd (omega (arith, ltb-true (n % 36000) 0 e))
turn_below (negsuc n) e = go (suc n % 36000) refl e
  where
    go : (r : ℕ) → r ≡ suc n % 36000 → lt_z (neg_ℤ (pos r)) (pos 0) ≡ true → neg_ℤ (pos r) +ℤ pos 36000 ≡ pos (35999 - n % 36000)
    go zero q e = cc
    go (suc r) q e =
        let h : suc r ≤ 36000 = omega arith in
        let d : 36000 - suc r ≡ 35999 - n % 36000 = omega arith in
        simp (le-ltb 36000 (suc r) h) (ap pos d)

-- any other is the reduced angle
pub turn_above : (a : ℤ) → lt_z (rem_z a (pos 36000)) (pos 0) ≡ false → rem_z a (pos 36000) ≡ pos (turn a)
unfolding turn
turn_above (pos n) e = refl
turn_above (negsuc n) e = go (suc n % 36000) refl e
  where
    go : (r : ℕ) → r ≡ suc n % 36000 → lt_z (neg_ℤ (pos r)) (pos 0) ≡ false → neg_ℤ (pos r) ≡ pos (35999 - n % 36000)
    go zero q e = let d : 0 ≡ 35999 - n % 36000 = omega arith in ap pos d
    go (suc r) q e = cc

-- ---- the complement

-- what an angle lacks of 90 degrees
turn_complement : (a : ℤ) → turn (pos 9000 -ℤ a) ≡ (45000 - turn a) % 36000
turn_complement a =
    let e : turn (pos 9000) ≡ 9000 = turn_reduced 9000 (omega arith) in
    omega (arith, turn_add (pos 9000) (neg_ℤ a), turn_neg a, turn_small a, e)

-- the complement depends on the reduced angle alone
pub complement_turn : (a : ℤ) → turn (pos 9000 -ℤ pos (turn a)) ≡ turn (pos 9000 -ℤ a)
complement_turn a =
    let e : turn (pos (turn a)) ≡ turn a = turn_reduced (turn a) (turn_small a) in
    omega (arith, turn_complement a, turn_complement (pos (turn a)), e)

-- of an angle up to 90 degrees
pub complement_low : (t : ℕ) → t ≤ 9000 → turn (pos 9000 -ℤ pos t) ≡ 9000 - t
complement_low t h =
    let e : turn (pos t) ≡ t = turn_reduced t (omega arith) in
    omega (arith, turn_complement (pos t), e)

-- of any other below a full turn
pub complement_high : (t : ℕ) → 9000 < t → t < 36000 → turn (pos 9000 -ℤ pos t) ≡ 45000 - t
complement_high t h k =
    let e : turn (pos t) ≡ t = turn_reduced t k in
    omega (arith, turn_complement (pos t), e)

-- both
pub ruleset complements = (complement_low, complement_high)

-- ---- reflection, quadrant by quadrant

-- up to 90 degrees as it is
pub acute-first : (t : ℕ) → t ≤ 9000 → acute t ≡ t
unfolding acute
acute-first t h = simp (acute, le-leb t 9000 h)

-- up to 180, back from there
pub acute-second : (t : ℕ) → 9000 < t → t ≤ 18000 → acute t ≡ 18000 - t
unfolding acute
acute-second t h k = simp (acute, lt-leb t 9000 h, le-leb t 18000 k)

-- up to 270, on from 180
pub acute_third : (t : ℕ) → 18000 < t → t ≤ 27000 → acute t ≡ t - 18000
unfolding acute
acute_third t h k =
    let p : 9000 < t = omega arith in
    simp (acute, lt-leb t 9000 p, lt-leb t 18000 h, le-leb t 27000 k)

-- past 270, back from a full turn
pub acute_fourth : (t : ℕ) → 27000 < t → acute t ≡ 36000 - t
unfolding acute
acute_fourth t h =
    let p : 9000 < t = omega arith in
    let q : 18000 < t = omega arith in
    simp (acute, lt-leb t 9000 p, lt-leb t 18000 q, lt-leb t 27000 h)

-- always into the first quadrant
pub acute_small : (t : ℕ) → t < 36000 → acute t ≤ 9000
acute_small t h = first (leb t 9000) refl
  where
    third : 18000 < t → (b : Bool) → leb t 27000 ≡ b → acute t ≤ 9000
    third p true e = let k = leb-true t 27000 e in omega (arith, acute_third t p k)
    third p false e = let k = leb-false t 27000 e in omega (arith, acute_fourth t k)

    second : 9000 < t → (b : Bool) → leb t 18000 ≡ b → acute t ≤ 9000
    second p true e = let k = leb-true t 18000 e in omega (arith, acute-second t p k)
    second p false e = third (leb-false t 18000 e) (leb t 27000) refl

    first : (b : Bool) → leb t 9000 ≡ b → acute t ≤ 9000
    first true e = let k = leb-true t 9000 e in omega (arith, acute-first t k)
    first false e = second (leb-false t 9000 e) (leb t 18000) refl

-- ---- sine and cosine depend on the reduced angle alone

-- the sine
pub sine-turn : (a b : ℤ) → turn a ≡ turn b → sine a ≡ sine b
unfolding sine
sine-turn a b e = ap turn_sine e

-- the cosine is the sine of the reduced angle's complement
pub cosine_complement : (a : ℤ) → turn_sine (turn (pos 9000 -ℤ pos (turn a))) ≡ cosine a
unfolding cosine
cosine_complement a = ap turn_sine (complement_turn a)

-- the cosine
pub cosine-turn : (a b : ℤ) → turn a ≡ turn b → cosine a ≡ cosine b
cosine-turn a b e =
    sym (cosine_complement a) ∙ ap (λ (t : ℕ). turn_sine (turn (pos 9000 -ℤ pos t))) e ∙ cosine_complement b
