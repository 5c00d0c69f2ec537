-- The places of a layout by its corners.
use Rattle.std.specs.Prelude.{Bool, cond, ◌&&◌, ℕ, ◌-◌, None, Option, Some}
use Rattle.aries.specs.declared.block.Copies.{Copies}
use Rattle.aries.specs.declared.block.Layout.{Layout}
use Rattle.aries.specs.declared.point.Point.{Point}
use Rattle.aries.specs.Judging.{near}
use Rattle.aries.specs.Layouts.{copy_count, place_at, copy_place}

-- the place of column c and row r, counted from the lower left place
abbrev pub cell : Point → Layout → ℕ → ℕ → Point
cell o l c r = place_at o l 1 c r

-- the lower left place and the upper right one are near, and so are all places (proofs/AllNear)
abbrev pub all_near : Point → Layout → Bool
all_near o l = near (cell o l 0 0) && near (cell o l l.steps.x l.steps.y)

-- the last copy's place, where 15 refuses none
abbrev pub last_copy : Point → Layout → Copies → Option Point
last_copy o l c = cond (all_near o l) (Some (copy_place o l c (copy_count l - 1))) None
