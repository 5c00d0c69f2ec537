-- What G92, G93 and G98 set up: the machine, the layout and the origin. (Document 01, "Moving and punching", "Macros and
-- layouts"; refusals 8 and 15.)
use Rattle.std.specs.Prelude.{ℕ, Ok, Option, None, Some}
use Rattle.aries.specs.declared.block.Layout.{Layout}
use Rattle.aries.specs.declared.refusal.Refusal.TheVariants.{TooFar}
use Rattle.aries.specs.declared.job.Job.{Job}
use Rattle.aries.specs.declared.point.Point.{Point}
use Rattle.aries.specs.declared.block.Axes.{Axes}
use Rattle.aries.specs.declared.machine.Machine.{Machine}
use Rattle.aries.specs.declared.machine.Machine.TheVariants.{Aries222}
use Rattle.aries.specs.declared.setup.Setup.{Setup}
use Rattle.aries.specs.declared.state.Frame.{Frame}
use Rattle.aries.specs.Outcome.{Out, ◌>>=◌, need}
use Rattle.aries.specs.Judging.{Judging, judged, near}
use Rattle.aries.specs.Mirrors.{no_mirror}
use Rattle.aries.specs.Moves.{zero_point, ◌⊕◌, written_over}

-- At the start reference and offset are zero. G92 names the machine before any range is judged.
abbrev pub fresh_setup : Job → Setup
fresh_setup job = record { job = job; machine = Aries222; sheet = None; offset = zero_point; origin = zero_point }

abbrev pub with_machine : Setup → Machine → Setup
with_machine s m = record s { machine = m }

-- ---- Frames: where X and Y are measured from, the range that is judged, and the mirrors that are open

-- the frame of blocks outside bodies, where no mirror is open
abbrev pub ordinary_frame : Setup → Frame
ordinary_frame s = record { job = s.job; machine = s.machine; origin = s.origin; mirror = no_mirror }

-- the frame of a copy: its origin is its own place
abbrev pub frame_at : Frame → Point → Frame
frame_at f p = record f { origin = p }

-- ---- G93 and G98: the origin is reference plus offset

-- the reference point that G98 set, zero before
abbrev pub reference_of : Option Layout → Point
reference_of None = zero_point
reference_of (Some l) = l.reference

-- what G93 leaves with another offset, and G98 with another layout: G98 leaves the offset of G93 in force
abbrev pub with_origin : Setup → Option Layout → Point → Setup
with_origin s sheet offset = record s { sheet = sheet; offset = offset; origin = reference_of sheet ⊕ offset }

-- 15: the origin does not pass the limit, whether or not a block uses it
unfoldable pub set_origin : Judging → ℕ → Option Layout → Point → Setup → Out Setup
unfolding near
set_origin j line sheet offset s = do
  _ ← need (judged j.bounds (near (reference_of sheet ⊕ offset))) TooFar line
  Ok (with_origin s sheet offset)

-- G93 sets the offset of the axes it names, whether G90 or G91 holds; an axis not named keeps its offset.
abbrev pub offset_by : Axes → Point → Point
offset_by a before = written_over a before
