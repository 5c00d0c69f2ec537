-- A place by its lane and its rest, as the code keeps it, in place of a quotient for each place.
use Rattle.std.specs.Prelude.{ℕ, suc, ◌+◌, ◌*◌}
use Rattle.lanes.specs.declared.Cursor.{Cursor}

-- the number of a cursor's place: how many come before it
abbrev pub passed : Cursor → ℕ
passed c = c.lane * suc c.last + c.rest
