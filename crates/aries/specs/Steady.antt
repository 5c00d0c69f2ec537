-- How far mirrors reach. A frame has at most one mirror for each open call, and the a and b of each are no longer than a word can
-- say, so that points before the mirrors are not much farther away than points after them. What functions ask of a frame and of
-- the letters given, and what every text keeps.
use Rattle.std.specs.Prelude.{◌≡◌, true, List, ℕ, ◌+◌, ◌*◌, ◌≤◌, nat_abs, Ok, pos, unwrap_or}
use Rattle.aries.specs.declared.block.Axes.{Axes}
use Rattle.aries.specs.declared.block.Call.{Call}
use Rattle.aries.specs.declared.block.Call.TheVariants.{Plain, Mirrored}
use Rattle.aries.specs.declared.block.Block.TheVariants as Block
use Rattle.aries.specs.declared.block.Instruction.{Instruction}
use Rattle.aries.specs.declared.reader.Reader.{Reader}
use Rattle.aries.specs.declared.state.Frame.{Frame}
use Rattle.aries.specs.declared.state.State.{State}
use Rattle.aries.specs.Blocks.{decode}
use Rattle.aries.specs.Judging.{farthest, is_near, near}
use Rattle.aries.specs.Macros.{most_calls}
use Rattle.aries.specs.Moves.{mirror_spans}

-- the farthest that 0 is seen from the origin, one mirror a call
abbrev pub span_limit : ℕ
span_limit = most_calls * farthest

-- the farthest that a point can be before mirrors, where it is near after them
abbrev pub unseen_limit : ℕ
unseen_limit = 7 * farthest

-- a frame in which so many calls may still be opened
pub record Steady (left : ℕ) (f : Frame) : Type 0 where
  pub origin : near f.origin ≡ true
  pub x_span : nat_abs f.mirror.x.span + left * farthest ≤ span_limit
  pub y_span : nat_abs f.mirror.y.span + left * farthest ≤ span_limit

-- X and Y of a block are no longer than a word can say
pub record AxesNear (a : Axes) : Type 0 where
  pub x : is_near (unwrap_or a.x (pos 0)) ≡ true
  pub y : is_near (unwrap_or a.y (pos 0)) ≡ true

-- so are those that G73 blocks have given, with 0 for one that none has given
abbrev pub GivenNear : State → Type 0
GivenNear s = near (mirror_spans s) ≡ true

abbrev pub CallNear : Call → Type 0
CallNear (Plain n) = Unit {0}
CallNear (Mirrored m) = AxesNear m.axes

-- So it is with every line that is a call: X and Y of a G73 are words, or absent and 0.
abbrev pub CallsNear : Type 0
CallsNear = (r : Reader) (l : List ℕ) (i : Instruction) (c : Call) → decode r l ≡ Ok i → i.block ≡ Block.Call c → CallNear c
