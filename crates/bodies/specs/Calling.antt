-- A block that calls a macro, by what its body begins with and what is left of what it ends with. `carry_call` of the definitions is
-- the same (proofs/Called.antt).
use Rattle.std.specs.Prelude.{ℕ}
use Rattle.aries.specs.declared.block.Call.{Call}
use Rattle.aries.specs.declared.block.Call.TheVariants.{Plain, Mirrored}
use Rattle.aries.specs.declared.point.Point.{Point}
use Rattle.aries.specs.declared.state.Frame.{Frame}
use Rattle.aries.specs.declared.state.Progress.{Progress}
use Rattle.aries.specs.declared.state.State.{State}
use Rattle.aries.specs.Mirrors.{mirrored}
use Rattle.aries.specs.Moves.{giving, mirror_spans, standing_at, with_state}

-- its macro
abbrev pub part_of : Call → ℕ
part_of (Plain n) = n
part_of (Mirrored m) = m.part

-- the progress that the body begins with, at an origin
abbrev pub begun_by : Call → Point → Progress → Progress
begun_by (Plain n) origin g = g
begun_by (Mirrored m) origin g = with_state g (standing_at (giving g.state m.axes) origin)

-- the frame that it is carried out in, by the a and b of a state
abbrev pub frame_by : Call → State → Frame → Frame
frame_by (Plain n) s f = f
frame_by (Mirrored m) s f = mirrored m.way (mirror_spans s) f

-- what is left of the progress that it ends with
abbrev pub left_by : Call → Point → Progress → Progress
left_by (Plain n) origin g = g
left_by (Mirrored m) origin g = with_state g (standing_at g.state origin)
