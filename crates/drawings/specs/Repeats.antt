-- A hit made twice.
use Rattle.std.specs.Prelude.{Option, None, Some, List, [], ◌∷◌, ◌++◌, ℕ, ◌+◌, ℤ, length}
use Rattle.std.specs.Option.{option_map, option_or}
use Rattle.std.specs.List.{position_from}
use Rattle.drawings.specs.declared.hole.Hole.{Hole}
use Rattle.drawings.specs.declared.Repeat.{Repeat}
use Rattle.drawings.specs.Holes.{is_at, list_holes}

-- the index of the first of some at which a hole stands, counted from 1; none if it stands at none
abbrev pub first_place : Hole → List (Option Hole) → Option ℕ
first_place h ks = position_from (is_at h) 1 ks

-- what an entry repeats of those before it; a stop repeats none
abbrev pub repeat_of : List (Option Hole) → Option Hole → Option Repeat
repeat_of before None = None
repeat_of before (Some h) = option_map (λ first. record { entry = length before + 1; first = first }) (first_place h before)

-- the first entry past some others that repeats one before it
abbrev pub repeat_after : List (Option Hole) → List (Option Hole) → Option Repeat
repeat_after before [] = None
repeat_after before (k ∷ ks) = option_or (repeat_of before k) (repeat_after (before ++ k ∷ []) ks)

-- The first entry of a list that makes a hole which an earlier one has made, and the first that made it, counted from 1.
unfoldable pub first_repeat : List ℤ → Option Repeat
first_repeat list = repeat_after [] (list_holes list)
