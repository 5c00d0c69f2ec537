-- Direct blocks one after another: what they make, and at which block they end. They are carried out alike in a body and
-- outside bodies.
use Rattle.std.specs.Prelude.{List, [], ◌∷◌, ℕ, suc, ◌+◌, length, Ok, Err, Option, Some, None}
use Rattle.aries.specs.declared.block.Block.{Block}
use Rattle.aries.specs.declared.location.Location.{Location}
use Rattle.aries.specs.declared.state.Frame.{Frame}
use Rattle.aries.specs.declared.state.Progress.{Progress}
use Rattle.aries.specs.Outcome.{Out, ◌>>=◌}
use Rattle.aries.specs.Entries.{Made, no_entry, and_then, map_after}
use Rattle.aries.specs.Judging.{Judging, limits}
use Rattle.aries.specs.Macros.{carry_direct, Begun, begin}
use Rattle.aries.specs.Runs.{Lent, Ran}
use Rattle.text.specs.Lines.{line_at, line_end}
use Rattle.stretches.specs.declared.Sequel.{Sequel}

-- ---- A block begins

-- a block that has begun, in a line that ends at a place, with what the progress is then
abbrev pub begun_of : Out (Block × Location) → Progress → Out (Begun × Location)
begun_of (Ok (b, end)) g = Ok (record { block = b; progress = g }, end)
begun_of (Err e) g = Err e

-- a block begins, in the line at a place of a text
abbrev pub begin_at : Judging → Frame → List ℕ → Location → Progress → Out (Begun × Location)
begin_at j f t at g = do
  x ← begin j f at.line (line_at t at.offset) g
  Ok (x, record { offset = line_end t at.offset; line = at.line })

-- ---- Stretches

-- what a stretch leaves, and the block that comes after it, which has begun; none at the end of the text
pub record Stretch : Type 0 where
  pub progress : Progress
  pub sequel : Option Sequel

-- the block, with what the progress is then
abbrev pub left_at : Out (Option Sequel) → Progress → Out Stretch
left_at (Ok sequel) g = Ok (record { progress = g; sequel = sequel })
left_at (Err e) g = Err e

-- so far, and on
abbrev pub going : Progress → Stretch
going g = record { progress = g; sequel = None }

-- up to a block that is not direct
abbrev pub ending_at : Progress → Sequel → Stretch
ending_at g sequel = record { progress = g; sequel = Some sequel }

-- a block that has begun, in a line that ends at a place: a direct one is carried out, any other ends the stretch
abbrev pub block_step : Judging → Frame → Location → Block → Progress → Out (Made Stretch)
block_step j f end (Block.Direct d) g = map_after going (carry_direct j f end.line d g)
block_step j f end (Block.Call c) g = no_entry (ending_at g (Sequel.Call c end))
block_step j f end (Block.Outside o) g = no_entry (ending_at g (Sequel.Outside o end))

-- a line, by the place where it ends; a blank one does nothing
abbrev pub line_step : Judging → Frame → Location → List ℕ → Progress → Out (Made Stretch)
line_step j f end [] g = no_entry (going g)
line_step j f end (b ∷ bs) g = do
  x ← begin j f end.line (b ∷ bs) g
  block_step j f end x.block x.progress

-- what follows, unless the stretch has ended
abbrev pub onward_from : (Progress → Out (Made Stretch)) → Progress → Option Sequel → Out (Made Stretch)
onward_from rest g None = rest g
onward_from rest g (Some sequel) = no_entry (ending_at g sequel)

abbrev pub onward : (Progress → Out (Made Stretch)) → Stretch → Out (Made Stretch)
onward rest s = onward_from rest s.progress s.sequel

-- the end of a line of a length that starts at a place, and the place behind its line feed
abbrev pub end_of : Location → ℕ → Location
end_of from size = record { offset = from.offset + size; line = from.line }

abbrev pub behind : Location → Location
behind end = record { offset = end.offset + 1; line = suc end.line }

-- the lines from a place of the text on, as far as their blocks are direct
unfoldable pub stretch : Judging → Frame → Location → List (List ℕ) → Progress → Out (Made Stretch)
stretch j f from [] g = no_entry (going g)
stretch j f from (l ∷ ls) g =
    and_then (line_step j f (end_of from (length l)) l g) (onward (stretch j f (behind (end_of from (length l))) ls))

abbrev pub entries_of_stretch : Stretch → ℕ
entries_of_stretch s = s.progress.entries

-- A stretch that was carried out in a frame from a progress on, by what it is under the limits of its job.
abbrev pub Stretches : Out Stretch → Frame → Lent → Lent → Progress → (Judging → Progress → Out (Made Stretch)) → Type 0
Stretches r f before after g what = Ran entries_of_stretch f.job r before after g.entries (what (limits f.job) g)
