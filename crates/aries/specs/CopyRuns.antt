-- Demand 3: what G75 and G76 make of a part, for every part, layout, starting corner and state before. The words are
-- those of document 01, "For demand 3, a run is ..".
use Rattle.std.specs.Prelude.{◌≡◌, ◌↔◌, Bool, true, false, cond, ◌||◌, List, [], ◌++◌, map, ℕ, zero, suc, ◌+◌, ◌-◌, ◌*◌, ◌/◌, ◌%◌, eqb, ℤ, pos, ◌+ℤ◌, ◌-ℤ◌, Err, None, Ok, Option, Some}
use Rattle.aries.specs.declared.refusal.Refusal.TheVariants.{NotStored}
use Rattle.aries.specs.declared.point.Point.{Point}
use Rattle.aries.specs.declared.block.Layout.{Layout}
use Rattle.aries.specs.declared.setup.Setup.{Setup}
use Rattle.aries.specs.declared.state.Progress.{Progress}
use Rattle.aries.specs.Outcome.{Out, refused}
use Rattle.aries.specs.declared.entry.Hit.{Hit}
use Rattle.aries.specs.declared.entry.Entry.{Entry}
use Rattle.aries.specs.Entries.{hits_in, hit_placed, placed_by, Made}
use Rattle.aries.specs.Judging.{Judging, limits, unjudged}
use Rattle.aries.specs.Moves.{point_at, zero_point, ◌⊕◌, with_state}
use Rattle.aries.specs.Macros.{Body, Bodies, run_body}
use Rattle.aries.specs.Setup.{ordinary_frame, frame_at}
use Rattle.aries.specs.Layouts.{copy_start, Part, part_of, copy_part}

-- ---- Runs

-- What a run depends on: what is stored under each number, what is set up, the job among it, the line of the block, the
-- part that W names and the corner that Q names, and the progress before (the state, the count of blocks carried out and
-- of entries made).
pub record Circumstances : Type 0 where
  pub bodies : Bodies
  pub setup : Setup
  pub line : ℕ
  pub part : ℕ
  pub corner : ℕ
  pub before : Progress

-- a run: a G76 block, or a G75 block, with all that it carries out
unfoldable pub run : Bool → Circumstances → Out (Made Progress)
unfolding copy_part
run vertical c = copy_part (limits c.setup.job) c.bodies c.setup c.line (record { vertical = vertical; part = c.part; corner = c.corner }) c.before

abbrev pub by_g75 : Circumstances → Out (Made Progress)
by_g75 c = run false c

abbrev pub by_g76 : Circumstances → Out (Made Progress)
by_g76 c = run true c

-- accepted: none of it is refused
abbrev pub Accepted : Out (Made Progress) → Type 0
Accepted out = (m : Made Progress) × (out ≡ Ok m)

-- the entries that it adds to the list
abbrev pub entries_of : Out (Made Progress) → List Entry
entries_of (Ok m) = m.entries
entries_of (Err e) = []

-- which body is stored, if one is, wherever it stands in its text
abbrev pub bytes_of : Option Body → Option (List ℕ)
bytes_of None = None
bytes_of (Some b) = Some b.bytes

-- the part, if it is stored
abbrev pub called : Judging → Circumstances → Option Body → Part
called j c None f g = refused NotStored c.line
called j c (Some b) f g = part_of j c.bodies b f g

-- The part's own entries: those it makes when the block calls it once from the state found, with origin and current point
-- at (0, 0), no pattern origin waiting, and 3, 15, 16 and 17 not judged.
abbrev pub own_run : Circumstances → Out (Made Progress)
own_run c =
    called unjudged c (c.bodies c.part) (frame_at (ordinary_frame c.setup) zero_point)
    (with_state c.before (copy_start c.before.state zero_point))

unfoldable pub own_entries : Circumstances → List Entry
unfolding run_body
own_entries c = entries_of (own_run c)

-- a hit with a vector added to X and Y
abbrev pub moved_hit : Point → Hit → Hit
moved_hit v h = hit_placed (λ p. p ⊕ v) h

-- an entry moved by a vector: a hit has it added, a stop stays as it was
abbrev pub moved_by : Point → Entry → Entry
moved_by v e = placed_by (λ p. p ⊕ v) e

-- ---- Places, by the paper's sentences on m

-- c and r count pitches along X and Y from the first place
pub record Cell : Type 0 where
  pub c : ℕ
  pub r : ℕ

-- the rest, or the last less the rest where the other count is odd
abbrev pub back_and_forth : ℕ → ℕ → ℕ → ℕ
back_and_forth last count rest = cond (eqb (count % 2) 1) (last - rest) rest

-- In G75, r is m / (P + 1), rest dropped; c is the rest, or P less the rest where r is odd.
abbrev pub cell75 : ℕ → ℕ → Cell
cell75 p m = record { c = back_and_forth p (m / (p + 1)) (m % (p + 1)); r = m / (p + 1) }

-- In G76, c is m / (K + 1), rest dropped; r is the rest, or K less the rest where c is odd.
abbrev pub cell76 : ℕ → ℕ → Cell
cell76 k m = record { c = m / (k + 1); r = back_and_forth k (m / (k + 1)) (m % (k + 1)) }

abbrev pub cell_of : Bool → Layout → ℕ → Cell
cell_of true l m = cell76 l.steps.y m
cell_of false l m = cell75 l.steps.x m

-- from the near end a count of pitches is added; from the far end it is taken off the whole width
abbrev pub coordinate : Bool → ℤ → ℕ → ℕ → ℕ → ℤ
coordinate true origin last n pitch = origin +ℤ pos (last * pitch) -ℤ pos (n * pitch)
coordinate false origin last n pitch = origin +ℤ pos (n * pitch)

-- c runs left under Q 2 and 4, else right; r runs down under Q 3 and 4, else up
abbrev pub place_of : Point → Layout → ℕ → Cell → Point
place_of origin l q x =
    point_at
    (coordinate (eqb q 2 || eqb q 4) origin.x l.steps.x x.c l.pitch.x)
    (coordinate (eqb q 3 || eqb q 4) origin.y l.steps.y x.r l.pitch.y)

-- the lists of m, m + 1, .., so many of them, one after the other
unfoldable pub joined : {A : Type 0} → (ℕ → List A) → ℕ → ℕ → List A
joined f zero m = []
joined f (suc n) m = f m ++ joined f n (suc m)

-- all the part's own entries in order, for each m in turn from 0 to (P + 1) × (K + 1) − 1, hits with the place of m added
abbrev pub laid_out : Bool → Layout → Circumstances → List Entry
laid_out vertical l c =
    joined (λ m. map (moved_by (place_of c.setup.origin l c.corner (cell_of vertical l m))) (own_entries c))
    ((l.steps.x + 1) * (l.steps.y + 1)) 0

-- ---- Runs that are compared

-- Two runs of one part, at one setting, in one state on one machine: the same is stored under each number, whatever the
-- texts are and wherever it stands in them, and the same body under the part's own number.
pub record SamePart (c d : Circumstances) : Type 0 where
  pub setting : c.setup.job.setting ≡ d.setup.job.setting
  pub machine : c.setup.machine ≡ d.setup.machine
  pub state : c.before.state ≡ d.before.state
  pub bodies : (n : ℕ) → bytes_of (c.bodies n) ≡ bytes_of (d.bodies n)
  pub part : bytes_of (c.bodies c.part) ≡ bytes_of (d.bodies d.part)

abbrev pub free_places : Circumstances → ℕ
free_places c = c.setup.job.places - c.before.entries

-- Two runs with all of these alike: stored part, layout, starting corner and state before, the count of blocks carried out
-- before and the free list places.
pub record AllAlike (c d : Circumstances) : Type 0 where
  pub parts : SamePart c d
  pub sheet : c.setup.sheet ≡ d.setup.sheet
  pub origin : c.setup.origin ≡ d.setup.origin
  pub corner : c.corner ≡ d.corner
  pub blocks : c.before.blocks ≡ d.before.blocks
  pub free : free_places c ≡ free_places d

-- the reference point moved by a vector
abbrev pub moved_sheet : Point → Option Layout → Option Layout
moved_sheet v None = None
moved_sheet v (Some l) = Some (record { reference = l.reference ⊕ v; pitch = l.pitch; steps = l.steps })

-- The second run has its reference point moved by a vector; the origin, reference plus offset, moves along. Nothing else in
-- the call or the state before is changed; block count and free places are no part of the state.
pub record ReferenceMoved (v : Point) (c d : Circumstances) : Type 0 where
  pub parts : SamePart c d
  pub sheet : moved_sheet v c.setup.sheet ≡ d.setup.sheet
  pub origin : c.setup.origin ⊕ v ≡ d.setup.origin
  pub corner : c.corner ≡ d.corner

-- ---- The four statements

-- Called by G75 and by G76 with all else alike, both runs are accepted or both are refused.
abbrev pub BothOrNeither : Type 0
BothOrNeither = (c d : Circumstances) → AllAlike c d → Accepted (by_g75 c) ↔ Accepted (by_g76 d)

-- a single row, a single column, both pitches zero, or no hit
pub data Alike (l : Layout) (own : List Entry) : Type 0 where
  single_row : l.steps.y ≡ 0 → Alike l own
  single_column : l.steps.x ≡ 0 → Alike l own
  no_pitch : l.pitch.x ≡ 0 → l.pitch.y ≡ 0 → Alike l own
  hitless : hits_in own ≡ [] → Alike l own

-- Where both are accepted, their entries are equal, one by one in order, exactly when the layout is a single row or a single
-- column, or both pitches are zero, or the part makes no hit.
abbrev pub EqualExactlyWhen : Type 0
EqualExactlyWhen =
    (c d : Circumstances) (l : Layout) → AllAlike c d → c.setup.sheet ≡ Some l → Accepted (by_g75 c) → Accepted (by_g76 d)
    → (entries_of (by_g75 c) ≡ entries_of (by_g76 d)) ↔ Alike l (own_entries c)

-- The part of every accepted run is accepted by itself, and the entries of the run are the part's own entries, copy after
-- copy: in each copy the hits moved to its place of the layout, and the stops as they were.
abbrev pub LayoutSentence : Type 0
LayoutSentence =
    (vertical : Bool) (c : Circumstances) (l : Layout) → c.setup.sheet ≡ Some l → Accepted (run vertical c)
    → Accepted (own_run c) × (entries_of (run vertical c) ≡ laid_out vertical l c)

-- Moving the reference point by any vector and changing nothing else in the call or the state before moves every hit of
-- the run by it and leaves the stops as they were, tool, mode and order kept, where both runs are accepted.
abbrev pub ReferenceMoves : Type 0
ReferenceMoves =
    (vertical : Bool) (v : Point) (c d : Circumstances) → ReferenceMoved v c d → Accepted (run vertical c) → Accepted (run vertical d)
    → entries_of (run vertical d) ≡ map (moved_by v) (entries_of (run vertical c))
