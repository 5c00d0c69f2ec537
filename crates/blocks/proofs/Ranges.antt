-- Laws of the ranges as the code has them.
-- Assumes nothing.
use mathlib.Core.Path.{◌≡◌, refl, ap}
use mathlib.Core.Bool.{Bool, ◌&&◌}
use mathlib.Core.List.{List, [], ◌∷◌}
use Prim.Native.Nat.{ℕ}
use Rattle.std.specs.List.{list_all}
use Rattle.aries.specs.Numbers.{Range}
use Rattle.aries.specs.Test.{every}
use Rattle.blocks.specs.declared.numbers.Range as coded
use Rattle.blocks.specs.Ranges.{row_of, ranges_in}

-- a test of every row
pub every-rows : (f : ℕ × Range → Bool) (rows : List (ℕ × coded.Range)) → list_all (λ r. f (row_of r)) rows ≡ every f (ranges_in rows)
every-rows f [] = refl
every-rows f (r ∷ rs) = ap (◌&&◌ (f (row_of r))) (every-rows f rs)
