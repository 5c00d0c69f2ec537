-- Places counted back and forth through lanes of equal length: each lane and distance has its place, bounds, the first
-- lane, lanes of one place, and how many there are.
use mathlib.Core.Path.{◌≡◌, refl, ap, ap₂, ◌∙◌}
use mathlib.Core.Bool.{Bool, true, false, cond}
use Prim.Native.Nat.{ℕ, suc, ◌+◌, ◌*◌, ◌-◌, ◌/◌, ◌%◌, ◌<◌, ◌≤◌}
use native.Mathlib.Nat.{mul-le-mul, le_refl, mod-lt, mod-eq_of_lt, div-eq_of_lt, div-lt_iff_lt-mul, mul-add-div_right, mul-add-mod_self_right}
use native.Mathlib.Omega.{arith}
use lib.Dec.{eqb}
use Rattle.aries.specs.declared.block.Steps.{Steps}
use Rattle.aries.specs.Lanes.{lane, along, places, lane_end, last_lane}

-- ---- The place of a lane and a distance along it

module _ (last i k : ℕ) where
  -- the rest of the place's number
  rest : ℕ
  rest = cond (eqb (i % 2) 0) k (last - k)

  abbrev pub number_of : ℕ
  unfolding rest
  number_of = i * suc last + rest

  rest_bound : k ≤ last → rest ≤ last
  unfolding rest
  rest_bound h = go (eqb (i % 2) 0)
    where
      go : (b : Bool) → cond b k (last - k) ≤ last
      go true = h
      go false = omega arith

  pub number_of_bound : (lanes : ℕ) → i ≤ lanes → k ≤ last → number_of < suc last * suc lanes
  unfolding rest
  number_of_bound lanes h l =
      let r = rest_bound l in
      let p : i * suc last ≤ lanes * suc last = mul-le-mul h (le_refl (suc last)) in
      omega arith

  pub lane-number_of : k ≤ last → lane last number_of ≡ i
  unfolding rest
  lane-number_of l =
      let r : rest < suc last = let b = rest_bound l in omega arith in
      let e : i + 0 ≡ i = omega arith in
      mul-add-div_right {m = suc last} (omega arith) i rest ∙ ap (λ (q : ℕ). i + q) (div-eq_of_lt r) ∙ e

  pub along-number_of : k ≤ last → along last number_of ≡ k
  unfolding rest
  along-number_of l =
      ap₂ (λ (a b : ℕ). cond (eqb (a % 2) 0) b (last - b)) (lane-number_of l)
      (mul-add-mod_self_right i (suc last) rest ∙ mod-eq_of_lt r)
      ∙ go (eqb (i % 2) 0)
    where
      r : rest < suc last
      r = let b = rest_bound l in omega arith

      go : (b : Bool) → cond b (cond b k (last - k)) (last - cond b k (last - k)) ≡ k
      go true = refl
      go false = omega arith

-- ---- Bounds

pub lane_bound : (last lanes m : ℕ) → m < suc last * suc lanes → lane last m ≤ lanes
lane_bound last lanes m h =
    let d : m / suc last < suc lanes = (div-lt_iff_lt-mul {k = suc last} {x = m} {y = suc lanes} (omega arith)).1 (omega arith) in
    omega arith

pub along_bound : (last m : ℕ) → along last m ≤ last
along_bound last m = go (eqb (lane last m % 2) 0)
  where
    go : (b : Bool) → cond b (m % suc last) (last - m % suc last) ≤ last
    go true = let r : m % suc last < suc last = mod-lt m (omega arith) in omega arith
    go false = omega arith

-- ---- The first lane, and lanes of one place

pub lane_first : (last m : ℕ) → m < suc last → lane last m ≡ 0
lane_first last m h = div-eq_of_lt h

pub along-first : (last m : ℕ) → m < suc last → along last m ≡ m
along-first last m h = rw (div-eq_of_lt h, mod-eq_of_lt h)

pub lane-single : (m : ℕ) → lane 0 m ≡ m
lane-single m = omega arith

pub along-single : (m : ℕ) → along 0 m ≡ 0
along-single m = let b = along_bound 0 m in omega arith

-- ---- By steps

module _ (vertical : Bool) (steps : Steps) where
  -- there are as many places as in all lanes
  pub places-lanes : places steps ≡ suc (lane_end vertical steps) * suc (last_lane vertical steps)
  places-lanes = go vertical
    where
      go : (v : Bool) → places steps ≡ suc (lane_end v steps) * suc (last_lane v steps)
      go true = omega arith
      go false = refl

  -- steps of 16 bits make lanes of 16 bits
  pub last_lane_small : steps.x ≤ 65535 → steps.y ≤ 65535 → last_lane vertical steps ≤ 65535
  last_lane_small h k = go vertical
    where
      go : (v : Bool) → last_lane v steps ≤ 65535
      go true = h
      go false = k

-- steps of 16 bits make at most 65,536 by 65,536 places
pub places_fit : (x y : ℕ) → x ≤ 65535 → y ≤ 65535 → suc x * suc y ≤ 4294967296
places_fit x y h k =
    let a : suc x ≤ 65536 = omega arith in
    let b : suc y ≤ 65536 = omega arith in
    mul-le-mul a b
