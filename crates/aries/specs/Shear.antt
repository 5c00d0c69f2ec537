-- Long edges by shear proof, G66 I J P Q D: a rectangular tool cuts along a line from the start at angle J. I is the length
-- of the edge, P the tool's size along the line and Q across it, D is added at both ends. P and Q have one sign: with plus the
-- tool lies left of the line, with minus right of it. All lengths are in hundredths. (Document 02, §2; refusal 18.)
use Rattle.std.specs.Prelude.{Bool, cond, ◌&&◌, ◌||◌, ℕ, ◌+◌, ◌-◌, ◌*◌, ◌/◌, eqb, ltb, ℤ, pos, nat_abs, ◌+ℤ◌, ◌-ℤ◌, ◌*ℤ◌}
use Rattle.std.specs.Int.Signed.{le_z, lt_z}
use Rattle.sine.specs.Series.{one}
use Rattle.sine.specs.Sine.{sine, cosine, rounded}
use Rattle.aries.specs.declared.point.Point.{Point}
use Rattle.aries.specs.declared.block.Shear.{Shear}
use Rattle.aries.specs.Moves.{point_at}

-- w, the size of P, which 000 calls the tool's length
abbrev pub width : Shear → ℕ
width s = nat_abs s.along

-- L = I + 2 × D, the length of the cut
abbrev pub cut_length : Shear → ℤ
cut_length s = s.length +ℤ pos 2 *ℤ s.compensation

-- ---- Refusal 18

-- P and Q have one sign, and neither is zero
abbrev pub on_one_side : Shear → Bool
on_one_side s = lt_z (pos 0) s.along && lt_z (pos 0) s.across || lt_z s.along (pos 0) && lt_z s.across (pos 0)

-- w is above 1 mm
abbrev pub is_wide : Shear → Bool
is_wide s = ltb 100 (width s)

-- I is not under 1.5 times w
abbrev pub is_long : Shear → Bool
is_long s = le_z (pos (3 * width s)) (pos 2 *ℤ s.length)

-- L is not under w
abbrev pub holds_tool : Shear → Bool
holds_tool s = le_z (pos (width s)) (cut_length s)

-- 18: the numbers fit together
unfoldable pub is_fit : Shear → Bool
is_fit s = on_one_side s && (is_wide s && (is_long s && holds_tool s))

-- ---- Where the hits lie

-- how far the tool travels: L − w, which 18 has found not negative
unfoldable pub travel : Shear → ℕ
travel s = nat_abs (cut_length s -ℤ pos (width s))

-- the longest step: w less 0.5 mm
abbrev pub longest_step : Shear → ℕ
longest_step s = width s - 50

-- n, the fewest equal steps none of which is longer: the travel by the longest step, a rest counted as one more; none if L
-- equals w
unfoldable pub steps : Shear → ℕ
unfolding travel
steps s = (travel s + (longest_step s - 1)) / longest_step s

-- what the travel is divided by: n, or 1 where there is no step
unfoldable pub divisor : Shear → ℕ
unfolding steps
divisor s = cond (eqb (steps s) 0) 1 (steps s)

-- Along and across parts are kept as fractions until each axis is rounded once; their common denominator is 2 × n.
abbrev pub denominator : Shear → ℕ
denominator s = 2 * divisor s

-- hit k along the line: w/2 − D + (L − w) × k / n, times the denominator
unfoldable pub along_part : Shear → ℕ → ℤ
unfolding travel divisor
along_part s k = pos (divisor s) *ℤ (pos (width s) -ℤ pos 2 *ℤ s.compensation) +ℤ pos (2 * travel s * k)

-- to the side of the line: half of Q, times the denominator
unfoldable pub across_part : Shear → ℤ
unfolding divisor
across_part s = pos (divisor s) *ℤ s.across

-- The offset of hit k: the along part at angle J, and the across part at a right angle to it, counterclockwise where it is plus.
unfoldable pub shear_offset : ℕ → Shear → ℕ → Point
unfolding cosine sine rounded divisor along_part across_part
shear_offset j s k =
    point_at
    (rounded (along_part s k *ℤ cosine (pos j) -ℤ across_part s *ℤ sine (pos j)) (denominator s * one))
    (rounded (along_part s k *ℤ sine (pos j) +ℤ across_part s *ℤ cosine (pos j)) (denominator s * one))
