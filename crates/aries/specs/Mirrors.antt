-- Mirrors, G73: where a point is seen while mirrors are open. (Document 02, §5.)
use Rattle.std.specs.Prelude.{Bool, false, not, cond, ◌||◌, ℕ, eqb, ℤ, pos, ◌+ℤ◌, ◌-ℤ◌}
use Rattle.aries.specs.declared.point.Point.{Point}
use Rattle.aries.specs.declared.mirror.Facing.{Facing}
use Rattle.aries.specs.declared.mirror.Mirror.{Mirror}
use Rattle.aries.specs.declared.state.Frame.{Frame}

-- ---- One axis, measured from the origin

-- where x is seen
abbrev pub seen_axis : Facing → ℤ → ℤ
seen_axis t x = cond t.flipped (t.span -ℤ x) (t.span +ℤ x)

-- no mirror is open: x is seen where it is
abbrev pub straight : Facing
straight = record { flipped = false; span = pos 0 }

-- A mirror opens inside those that are open: x is turned into a − x first, and then seen in them. So 0 is seen where a was.
abbrev pub flipped_at : Facing → ℤ → Facing
flipped_at t a = record { flipped = not t.flipped; span = seen_axis t a }

-- ---- Both axes

abbrev pub no_mirror : Mirror
no_mirror = record { x = straight; y = straight }

-- By Q1 the macro runs as it is, by Q2 each X is turned into a − X, by Q3 each Y into b − Y, by Q4 both.
abbrev pub mirrors_x : ℕ → Bool
mirrors_x q = eqb q 2 || eqb q 4

abbrev pub mirrors_y : ℕ → Bool
mirrors_y q = eqb q 3 || eqb q 4

-- the mirror of a G73, by its Q and its a and b, opens inside those that are open
abbrev pub opened : ℕ → Point → Mirror → Mirror
opened q spans m =
    record {
      x = cond (mirrors_x q) (flipped_at m.x spans.x) m.x;
      y = cond (mirrors_y q) (flipped_at m.y spans.y) m.y;
    }

-- ---- Points, measured from an origin

-- x turned into a − x
abbrev pub reflected_axis : ℤ → ℤ → ℤ → ℤ
reflected_axis origin a x = origin +ℤ (a -ℤ (x -ℤ origin))

-- a point turned by a Q
abbrev pub reflected : ℕ → Point → Point → Point → Point
reflected q spans origin p =
    record {
      x = cond (mirrors_x q) (reflected_axis origin.x spans.x p.x) p.x;
      y = cond (mirrors_y q) (reflected_axis origin.y spans.y p.y) p.y;
    }

-- ---- Frames

abbrev pub mirrored : ℕ → Point → Frame → Frame
mirrored q spans f = record { job = f.job; machine = f.machine; origin = f.origin; mirror = opened q spans f.mirror }

-- where a coordinate of the sheet is seen, by that of the origin
abbrev pub seen_from : Facing → ℤ → ℤ → ℤ
seen_from t origin x = origin +ℤ seen_axis t (x -ℤ origin)

-- where a point is seen after all mirrors: it has been expanded before, so rounding is the macro's
unfoldable pub seen : Frame → Point → Point
seen f p = record { x = seen_from f.mirror.x f.origin.x p.x; y = seen_from f.mirror.y f.origin.y p.y }
