-- What is kept from hit to hit of a line: its direction.
use Rattle.std.specs.Prelude.{ℤ}
use Rattle.sine.specs.Sine.{offset}
use Rattle.sine.specs.declared.Direction.{Direction}
use Rattle.aries.specs.declared.point.Point.{Point}
use Rattle.aries.specs.Moves.{point_at}

-- the offset at a distance, in a direction
abbrev pub toward : ℤ → Direction → Point
toward distance d = point_at (offset distance d.cosine) (offset distance d.sine)
