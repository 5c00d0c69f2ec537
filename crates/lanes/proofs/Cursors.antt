-- Laws of cursors: a place's lane and rest are the quotient and the rest of its number.
use mathlib.Core.Path.{◌≡◌, sym, ap, ap₂, ◌∙◌}
use mathlib.Core.Bool.{Bool, true, false, cond}
use Prim.Native.Nat.{ℕ, suc, ◌-◌, ◌/◌, ◌%◌, ◌<◌, ◌≤◌}
use native.Mathlib.Nat.{div-eq_of_lt, mod-eq_of_lt, mul-add-div_right, mul-add-mod_self_right}
use native.Mathlib.Omega.{arith}
use lib.Dec.{eqb}
use Rattle.lanes.specs.declared.Cursor.{Cursor}
use Rattle.lanes.specs.Cursors.{passed}
use Rattle.aries.specs.declared.block.Steps.{Steps}
use Rattle.aries.specs.Lanes.{lane, along, places, lane_end, last_lane, column_of, row_of}
use Rattle.aries.proofs.Lanes.{places-lanes, lane_bound}

module _ (c : Cursor) where
  below : c.rest < suc c.last
  below = let h = c.inside in omega arith

  -- the lane of a cursor's place
  pub lane-passed : lane c.last (passed c) ≡ c.lane
  lane-passed =
      let e : c.rest / suc c.last ≡ 0 = div-eq_of_lt below in
      omega (arith, mul-add-div_right {m = suc c.last} (omega arith) c.lane c.rest)

  rest-passed : passed c % suc c.last ≡ c.rest
  rest-passed = mul-add-mod_self_right c.lane (suc c.last) c.rest ∙ mod-eq_of_lt below

  -- how far along its lane it lies
  pub along-passed : along c.last (passed c) ≡ cond (eqb (c.lane % 2) 0) c.rest (c.last - c.rest)
  along-passed = ap₂ (λ (i r : ℕ). cond (eqb (i % 2) 0) r (c.last - r)) lane-passed rest-passed

  -- both where the lanes are known to end
  in_lane : {last : ℕ} → c.last ≡ last → c.lane ≡ lane last (passed c)
  in_lane ends = sym lane-passed ∙ ap (λ (n : ℕ). lane n (passed c)) ends

  in_step : {last step : ℕ} → step ≡ along c.last (passed c) → c.last ≡ last → step ≡ along last (passed c)
  in_step is ends = is ∙ ap (λ (n : ℕ). along n (passed c)) ends

  abbrev pair : ℕ → ℕ → ℕ × ℕ
  pair x y = (x, y)

  -- its column and row, in lanes that are columns
  pub in_column : {vertical : Bool} {step : ℕ} → step ≡ along c.last (passed c) → vertical ≡ true → (steps : Steps) → c.last ≡ lane_end vertical steps
      → ◌≡◌ {A = ℕ × ℕ} (c.lane, step) (column_of vertical steps (passed c), row_of vertical steps (passed c))
  in_column is v steps ends = ap₂ pair (in_lane ends ∙ simp v) (in_step is ends ∙ simp v)

  -- and in rows
  pub in_row : {vertical : Bool} {step : ℕ} → step ≡ along c.last (passed c) → vertical ≡ false → (steps : Steps) → c.last ≡ lane_end vertical steps
      → ◌≡◌ {A = ℕ × ℕ} (step, c.lane) (column_of vertical steps (passed c), row_of vertical steps (passed c))
  in_row is v steps ends = ap₂ pair (in_step is ends ∙ simp v) (in_lane ends ∙ simp v)

  -- a place within steps lies in one of their lanes
  pub lane_within : (vertical : Bool) (steps : Steps) → c.last ≡ lane_end vertical steps → passed c < places steps → c.lane ≤ last_lane vertical steps
  lane_within vertical steps ends h =
      let all = places-lanes vertical steps in
      rw (in_lane ends) (lane_bound (lane_end vertical steps) (last_lane vertical steps) (passed c) (omega arith))

  -- and the lane of the next place is at most one further
  pub next_within : (vertical : Bool) (steps : Steps) → c.last ≡ lane_end vertical steps → passed c < places steps → lane c.last (suc (passed c)) ≤ suc (last_lane vertical steps)
  next_within vertical steps ends h =
      let all = places-lanes vertical steps in
      rw (ap (λ (n : ℕ). lane n (suc (passed c))) ends) (lane_bound (lane_end vertical steps) (suc (last_lane vertical steps)) (suc (passed c)) (omega arith))

pub ruleset along_place = (along-passed)
