-- Layouts: the places of G98 and the order in which G75 and G76 copy a part to them. (Document 01, "Macros and layouts"
-- and the paragraph on demand 3; refusals 10, 13 and 15.)
use Rattle.std.specs.Prelude.{Bool, true, false, ◌||◌, ℕ, zero, suc, ◌-◌, ◌*◌, eqb, pos, Option, None, Some}
use Rattle.aries.specs.declared.refusal.Refusal.TheVariants.{NotStored, NoLayout, TooFar}
use Rattle.aries.specs.declared.point.Point.{Point}
use Rattle.aries.specs.declared.block.Layout.{Layout}
use Rattle.aries.specs.declared.block.Copies.{Copies}
use Rattle.aries.specs.declared.setup.Setup.{Setup}
use Rattle.aries.specs.declared.state.State.{State}
use Rattle.aries.specs.declared.state.Frame.{Frame}
use Rattle.aries.specs.declared.state.Progress.{Progress}
use Rattle.aries.specs.Outcome.{Out, refused, ◌>>=◌, need, given}
use Rattle.aries.specs.Entries.{Made, no_entry, and_then}
use Rattle.aries.specs.Judging.{Judging, judged, near}
use Rattle.aries.specs.Lanes.{places, column_of, row_of}
use Rattle.aries.specs.Moves.{point_at, ◌⊕◌, standing_at, with_state}
use Rattle.aries.specs.Macros.{Body, Bodies, most_calls, run_body}
use Rattle.aries.specs.Setup.{ordinary_frame, frame_at}

-- ---- Places

-- P + 1 by K + 1 copies
abbrev pub copy_count : Layout → ℕ
copy_count l = places l.steps

-- Q names the first place: 1 lower left, 2 lower right, 3 upper left, 4 upper right
abbrev pub from_right : ℕ → Bool
from_right q = eqb q 2 || eqb q 4

abbrev pub from_top : ℕ → Bool
from_top q = eqb q 3 || eqb q 4

-- counted from the far end, or from the near one
abbrev pub facing : Bool → ℕ → ℕ → ℕ
facing true last n = last - n
facing false last n = n

-- the place of column c and row r: whole pitches right and up from the lower left place, which is at the origin
abbrev pub place_at : Point → Layout → ℕ → ℕ → ℕ → Point
place_at origin l q c r =
    origin
    ⊕ point_at (pos (facing (from_right q) l.steps.x c * l.pitch.x)) (pos (facing (from_top q) l.steps.y r * l.pitch.y))

-- the place of copy m, by its column and row, which are c and r of the paragraph on demand 3
unfoldable pub copy_place : Point → Layout → Copies → ℕ → Point
copy_place origin l c m = place_at origin l c.corner (column_of c.vertical l.steps m) (row_of c.vertical l.steps m)

-- ---- Copies

-- Each copy begins with the state that the calling block found, except that its origin and current point are its own
-- place and no pattern origin waits.
abbrev pub copy_start : State → Point → State
copy_start s p = standing_at s p

-- what carries the part out, in a frame
abbrev pub Part : Type 0
Part = Frame → Progress → Out (Made Progress)

-- one copy at p from the state found, the counts being those of the progress
unfoldable pub copy : Judging → Part → Frame → ℕ → State → Point → Progress → Out (Made Progress)
unfolding near
copy j part f line found p g = do
  _ ← need (judged j.bounds (near p)) TooFar line
  part (frame_at f p) (with_state g (copy_start found p))

-- copies m, m + 1, .., so many of them; after the last one the state is that copy's
unfoldable pub copy_all : Judging → Part → Frame → ℕ → State → (ℕ → Point) → ℕ → ℕ → Progress → Out (Made Progress)
unfolding copy
copy_all j part f line found place zero m g = no_entry g
copy_all j part f line found place (suc n) m g = and_then (copy j part f line found (place m) g) (copy_all j part f line found place n (suc m))

-- a body as the part that is copied, carried out with one call open
abbrev pub part_of : Judging → Bodies → Body → Part
part_of j bodies b f g = run_body j bodies (most_calls - 1) f b g

abbrev pub copy_over : Judging → Bodies → Body → Setup → ℕ → Copies → Option Layout → Progress → Out (Made Progress)
copy_over j bodies b s line c None g = refused NoLayout line
copy_over j bodies b s line c (Some l) g =
    copy_all j (part_of j bodies b) (ordinary_frame s) line g.state (copy_place s.origin l c) (copy_count l) 0 g

-- A G75 or G76 block. It stands outside bodies, where no call is open.
unfoldable pub copy_part : Judging → Bodies → Setup → ℕ → Copies → Progress → Out (Made Progress)
unfolding copy_all copy_place run_body
copy_part j bodies s line c g = do
  b ← given (bodies c.part) NotStored line
  copy_over j bodies b s line c s.sheet g
