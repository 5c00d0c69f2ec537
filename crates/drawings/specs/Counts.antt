-- How often a hole stands among others, and the first that stands among some more often than among others.
use Rattle.std.specs.Prelude.{Bool, false, Option, None, Some, List, ℕ, nat_lt}
use Rattle.std.specs.List.{count_by, position_from}
use Rattle.drawings.specs.declared.hole.Hole.{Hole}
use Rattle.drawings.specs.Holes.{is_at}

-- how often a hole stands among some
abbrev pub times : Hole → List (Option Hole) → ℕ
times h ks = count_by (is_at h) ks

-- a hole stands among the first more often than among the second; where there is none it does not
abbrev pub is_over : List (Option Hole) → List (Option Hole) → Option Hole → Bool
is_over these those None = false
is_over these those (Some h) = nat_lt (times h those) (times h these)

-- the index of the first of these that stands among these more often than among those, counted from 1; none if none does
abbrev pub first_over : List (Option Hole) → List (Option Hole) → Option ℕ
first_over these those = position_from (is_over these those) 1 these
