-- A hit by what it depends on alone: what is judged of it, and the lent list afterwards. `punch` of the definitions is the
-- same with a whole progress (proofs/Punch.antt).
use Rattle.std.specs.Prelude.{Bool, cond, ℕ, Option, None, Some, Result, Ok, Err}
use Rattle.aries.specs.declared.entry.Entry.TheVariants as Entry
use Rattle.aries.specs.declared.point.Point.{Point}
use Rattle.aries.specs.declared.refusal.Refusal.{Refusal}
use Rattle.aries.specs.declared.refusal.Refusal.TheVariants.{NoTool, TooFar, OutOfRange, ListFull}
use Rattle.aries.specs.declared.state.Frame.{Frame}
use Rattle.aries.specs.Judging.{near}
use Rattle.aries.specs.Machine.{covers, in_range}
use Rattle.aries.specs.Mirrors.{seen}
use Rattle.aries.specs.Runs.{Lent, put}
use Rattle.press.specs.Entries.{has_place}

-- a hit at a point, after so many entries: 15 to 17 in their order, 15 and 16 where the point is seen after all mirrors; where it
-- is made the point becomes the current one
unfoldable pub judged_place : Frame → Point → ℕ → Result Point Refusal
unfolding near covers seen
judged_place f p entries =
    cond (near (seen f p))
    (cond (in_range f (seen f p)) (cond (has_place f.job entries) (Ok p) (Err ListFull)) (Err OutOfRange))
    (Err TooFar)

-- with the tool chosen: 14 first
abbrev pub judged_hit : Frame → Point → Option ℕ → ℕ → Result Point Refusal
judged_hit f p None entries = Err NoTool
judged_hit f p (Some tool) entries = judged_place f p entries

-- a hit with the tool chosen is put at place k; without one there is none
abbrev pub put_hit : Lent → ℕ → Point → Option ℕ → Bool → Lent
put_hit l k p None nibble = l
put_hit l k p (Some tool) nibble = put l k (Entry.Hit (record { place = p; tool = tool; nibble = nibble }))

-- the list after what is judged of a hit at place k: it is made where the point is seen
abbrev pub list_after : Frame → Result Point Refusal → Lent → ℕ → Option ℕ → Bool → Lent
list_after f (Ok p) l k tool nibble = put_hit l k (seen f p) tool nibble
list_after f (Err refusal) l k tool nibble = l
