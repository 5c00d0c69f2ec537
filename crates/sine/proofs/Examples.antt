-- Sines and offsets that the paper's plates use, computed from the definitions.
-- Assumes nothing.
use mathlib.Core.Path.{◌≡◌, refl}
use mathlib.Core.List.{[], ◌∷◌, map}
use Prim.Native.Nat.{ℕ, ◌+◌, ◌*◌}
use lib.IntN.{pos, negsuc}
use Rattle.sine.specs.Sine.{sine, cosine, offset}

-- every quadrant, both ends of a turn and an angle below zero
sines : map sine (pos 4500 ∷ pos 9000 ∷ pos 15000 ∷ pos 18000 ∷ pos 27000 ∷ pos 36000 ∷ negsuc 0 ∷ []) ≡ pos 707106781 ∷ pos 1000000000 ∷ pos 500000000 ∷ pos 0 ∷ negsuc 999999999 ∷ pos 0 ∷ negsuc 174532 ∷ []
unfolding sine
sines = refl

-- plate M4: the first and the last of six hits 25 mm apart, at 30 degrees
line_offsets : map (λ (k : ℕ). offset (pos (k * 2500)) (cosine (pos 3000))) (1 ∷ 6 ∷ []) ≡ pos 2165 ∷ pos 12990 ∷ []
unfolding offset cosine
line_offsets = refl

-- plate M5: four hits on a circle of radius 25 mm, from 45 degrees on
circle_offsets : map (λ (k : ℕ). offset (pos 2500) (cosine (pos (4500 + k * 9000)))) (0 ∷ 1 ∷ 2 ∷ 3 ∷ []) ≡ pos 1768 ∷ negsuc 1767 ∷ negsuc 1767 ∷ pos 1768 ∷ []
unfolding offset cosine
circle_offsets = refl

-- halves go away from zero
halves : offset (pos 5) (pos 500000000) ≡ pos 3
unfolding offset
halves = refl

halves_below : offset (negsuc 4) (pos 500000000) ≡ negsuc 2
unfolding offset
halves_below = refl
