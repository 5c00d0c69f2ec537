-- Demand 3 speaks of runs that demand 2 describes: what a program does with a line that asks for G75 or G76 and that 3 to 7
-- do not refuse is a run in the circumstances that the program has reached, the block itself being counted; and the origin
-- that the run finds is reference plus offset.
use Rattle.std.specs.Prelude.{◌≡◌, true, List, ◌∷◌, ℕ, suc, ◌+◌, length, Ok, Some}
use Rattle.aries.specs.declared.block.Copies.{Copies}
use Rattle.aries.specs.declared.block.Outside.TheVariants.{Copy}
use Rattle.aries.specs.declared.block.Block.TheVariants.{Outside}
use Rattle.aries.specs.declared.block.Instruction.{Instruction}
use Rattle.aries.specs.declared.job.Job.{Job}
use Rattle.aries.specs.declared.point.Point.{Point}
use Rattle.aries.specs.declared.block.Layout.{Layout}
use Rattle.aries.specs.declared.setup.Setup.{Setup}
use Rattle.aries.specs.declared.setup.Stage.TheVariants.{Running}
use Rattle.aries.specs.declared.setup.Program.{Program}
use Rattle.aries.specs.Text.{lines}
use Rattle.aries.specs.Entries.{Made, map_after}
use Rattle.aries.specs.Judging.{limits}
use Rattle.aries.specs.Blocks.{decode}
use Rattle.aries.specs.Moves.{◌⊕◌}
use Rattle.aries.specs.Macros.{bodies_of, is_counted, may_come, begun}
use Rattle.aries.specs.Reader.{reader_of}
use Rattle.aries.specs.Setup.{ordinary_frame, reference_of}
use Rattle.aries.specs.Program.{with_progress, fresh_program, run_line_outside}
use Rattle.aries.specs.CopyRuns.{Circumstances, run, moved_sheet}

-- ---- A G75 or G76 block

-- what a program finds at such a block in a line with a number
abbrev pub circumstances : List ℕ → ℕ → Copies → Program → Circumstances
circumstances text line k p =
    record {
      bodies = bodies_of text p.macros;
      setup = p.setup;
      line = line;
      part = k.part;
      corner = k.corner;
      before = p.progress;
    }

-- A line outside bodies that decodes as such a block, where another block may come and the program runs, is its run.
abbrev pub CopyLinesRun : Type 0
CopyLinesRun =
    (text : List ℕ) (next line : ℕ) (l : List ℕ) (ls : List (List ℕ)) (p : Program) (i : Instruction) (k : Copies)
    → p.stage ≡ Running → may_come (limits p.setup.job) l p.progress ≡ true → decode (reader_of (ordinary_frame p.setup) p.progress.state) l ≡ Ok i → i.block ≡ Outside (Copy k)
    → run_line_outside (limits p.setup.job) text next line l ls p
    ≡ map_after (with_progress p) (run k.vertical (circumstances text line k (with_progress p (begun (is_counted l) i.measure p.progress))))

-- ---- The origin

-- A program under way: it has carried out the lines of a text up to a place, where the lines given are left, the first with
-- a number.
pub data Reached (job : Job) (text : List ℕ) : ℕ → ℕ → List (List ℕ) → Program → Type 0 where
  start : Reached job text 0 1 (lines text) (fresh_program job)
  next :
      {at line : ℕ} {l : List ℕ} {ls : List (List ℕ)} {p : Program} {m : Made Program} → Reached job text at line (l ∷ ls) p
      → run_line_outside (limits job) text (at + length l + 1) line l ls p ≡ Ok m → Reached job text (at + length l + 1) (suc line) ls m.after

-- the origin is reference plus offset
abbrev pub Ordinary : Setup → Type 0
Ordinary s = s.origin ≡ reference_of s.sheet ⊕ s.offset

-- So it is wherever a program comes, and its job is the caller's.
abbrev pub ReachedOrdinary : Type 0
ReachedOrdinary =
    (job : Job) (text : List ℕ) (at line : ℕ) (ls : List (List ℕ)) (p : Program) → Reached job text at line ls p
    → Ordinary p.setup × (p.setup.job ≡ job)

-- So where G98 is in force, moving the reference point and leaving the offset moves the origin along, as `ReferenceMoved` of
-- CopyRuns has it.
abbrev pub OriginMoves : Type 0
OriginMoves =
    (v : Point) (s t : Setup) (l : Layout) → s.sheet ≡ Some l → moved_sheet v s.sheet ≡ t.sheet → s.offset ≡ t.offset
    → Ordinary s → Ordinary t → s.origin ⊕ v ≡ t.origin
