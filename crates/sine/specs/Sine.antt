-- Sine and cosine of every angle in hundredths of a degree, in units of 10^-9, and the offset that they give a distance.
-- Assumes nothing.
use Rattle.std.specs.Prelude.{true, false, ℕ, ◌+◌, ◌-◌, ◌*◌, ◌/◌, ◌%◌, leb, ltb, ℤ, pos, negsuc, nat_abs, ◌-ℤ◌, ◌*ℤ◌}
use Rattle.std.specs.Int.Signed.{lt_z}
use Rattle.signed.specs.Signed.{with_sign}
use Rattle.sine.specs.Series.{nearest, one, degree_sine, hundredth_sine, hundredth_cosine}
use Rattle.sine.specs.declared.Direction.{Direction}

-- ---- Angles, in hundredths of a degree

abbrev pub quarter_turn : ℕ
quarter_turn = 9000

abbrev pub half_turn : ℕ
half_turn = 18000

abbrev pub full_turn : ℕ
full_turn = 36000

-- ---- The sine

-- C(d): the cosine of d degrees
abbrev pub degree_cosine : ℕ → ℕ
degree_cosine d = degree_sine (90 - d)

-- The sum formula: the sine of two angles together, from the sine and cosine of the one and of the other.
abbrev pub joined : ℕ → ℕ → ℕ → ℕ → ℕ
joined sineA cosineA sineB cosineB = nearest (sineA * cosineB + cosineA * sineB) one

-- The sine of 0 to 9,000 hundredths: whole degrees and the hundredths past them, joined.
unfoldable pub quadrant_sine : ℕ → ℕ
unfolding degree_sine hundredth_sine hundredth_cosine
quadrant_sine a =
    joined (degree_sine (a / 100)) (degree_cosine (a / 100)) (hundredth_sine (a % 100)) (hundredth_cosine (a % 100))

-- An angle reduced to a full turn, 0 to 35,999 hundredths: from 0 it counts up, from -1 it counts down from the end of the turn.
unfoldable pub turn : ℤ → ℕ
turn (pos n) = n % full_turn
turn (negsuc n) = full_turn - 1 - n % full_turn

-- Reflection: the angle of the first quadrant whose sine has the same size, for an angle below a full turn.
unfoldable pub acute : ℕ → ℕ
acute t =
    elim (leb t quarter_turn) [
      | true ↦ t
      | false ↦ elim (leb t half_turn) [
        | true ↦ half_turn - t
        | false ↦ elim (leb t (half_turn + quarter_turn)) [ true ↦ t - half_turn | false ↦ full_turn - t ]
      ]
    ]

-- The sine of an angle below a full turn: past half a turn it is negative.
unfoldable pub turn_sine : ℕ → ℤ
unfolding quadrant_sine acute
turn_sine t = with_sign (ltb half_turn t) (quadrant_sine (acute t))

-- The sine of any angle.
unfoldable pub sine : ℤ → ℤ
unfolding turn turn_sine
sine a = turn_sine (turn a)

-- The cosine of any angle is the sine of what it lacks of a quarter turn.
unfoldable pub cosine : ℤ → ℤ
unfolding sine
cosine a = sine (pos quarter_turn -ℤ a)

-- both of one angle
unfoldable pub direction_of : ℤ → Direction
unfolding cosine
direction_of a = record { cosine = cosine a; sine = sine a }

-- z / d to the nearest, halves away from zero: the size is rounded and keeps its sign
unfoldable pub rounded : ℤ → ℕ → ℤ
rounded z d = with_sign (lt_z z (pos 0)) (nearest (nat_abs z) d)

-- ---- Offsets

-- How far a distance reaches along an axis, by the sine (or cosine) of its angle to it.
unfoldable pub offset : ℤ → ℤ → ℤ
unfolding rounded
offset distance s = rounded (distance *ℤ s) one
