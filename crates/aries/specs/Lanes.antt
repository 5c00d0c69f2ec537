-- Back and forth: places counted through lanes of equal length, every other lane backwards. Grids go so (document 01,
-- "Patterns") and layouts (the paragraph on demand 3).
use Rattle.std.specs.Prelude.{Bool, cond, ℕ, suc, ◌-◌, ◌*◌, ◌/◌, ◌%◌, eqb}
use Rattle.aries.specs.declared.block.Steps.{Steps}

-- ---- By the last place of a lane

-- the lane of place m, where the last place of a lane is given, counted from 0
abbrev pub lane : ℕ → ℕ → ℕ
lane last m = m / suc last

-- how far along its lane place m lies: the rest, or the last place less the rest in an odd lane
abbrev pub along : ℕ → ℕ → ℕ
along last m = cond (eqb (lane last m % 2) 0) (m % suc last) (last - m % suc last)

-- ---- By the steps from the first place to the last one, along X and along Y. Lanes are rows, or columns where they are vertical.

-- how many places there are: P + 1 columns of K + 1 places
abbrev pub places : Steps → ℕ
places s = suc s.x * suc s.y

-- the last place of a lane
abbrev pub lane_end : Bool → Steps → ℕ
lane_end vertical s = cond vertical s.y s.x

-- the last lane
abbrev pub last_lane : Bool → Steps → ℕ
last_lane vertical s = cond vertical s.x s.y

-- the column of place m: its lane, or how far along its row it lies
abbrev pub column_of : Bool → Steps → ℕ → ℕ
column_of vertical s m = cond vertical (lane (lane_end vertical s) m) (along (lane_end vertical s) m)

-- its row
abbrev pub row_of : Bool → Steps → ℕ → ℕ
row_of vertical s m = cond vertical (along (lane_end vertical s) m) (lane (lane_end vertical s) m)
