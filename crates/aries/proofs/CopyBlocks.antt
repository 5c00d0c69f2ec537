-- A G75 or G76 block of a program is a run; wherever a program comes, the origin is reference plus offset, since only G93 and
-- G98 set reference, offset or origin, and they set it so.
use Rattle.std.specs.Prelude.{Ok, Option}
use mathlib.Core.Path.{◌≡◌, refl, sym, ap, ap₂, ◌∙◌}
use mathlib.Core.Bool.{true, false}
use mathlib.Core.List.{List, [], ◌∷◌}
use Prim.Native.Nat.{ℕ}
use native.Mathlib.Omega.{arith}
use Rattle.aries.specs.declared.block.Layout.{Layout}
use Rattle.aries.specs.declared.refusal.Refusal.TheVariants.{OutOfPlace}
use Rattle.aries.specs.declared.block.Block.{Block}
use Rattle.aries.specs.declared.block.Instruction.{Instruction}
use Rattle.aries.specs.declared.job.Job.{Job}
use Rattle.aries.specs.declared.point.Point.{Point}
use Rattle.aries.specs.declared.reader.Reader.{Reader}
use Rattle.aries.specs.declared.setup.Setup.{Setup}
use Rattle.aries.specs.declared.setup.Stage.{Stage}
use Rattle.aries.specs.declared.setup.Program.{Program}
use Rattle.aries.specs.declared.state.Progress.{Progress}
use Rattle.aries.specs.Outcome.{Out, ◌>>=◌, need}
use Rattle.aries.specs.Entries.{Made}
use Rattle.aries.specs.Judging.{Judging, limits}
use Rattle.aries.specs.Reader.{reader_of}
use Rattle.aries.specs.Blocks.{decode}
use Rattle.aries.specs.Moves.{◌⊕◌}
use Rattle.aries.specs.Macros.{Begun, is_counted, begun}
use Rattle.aries.specs.Setup.{ordinary_frame, reference_of}
use Rattle.aries.specs.Program.{with_progress, in_place, carry_outside, carry_out, is_storing, pass_over, run_block_outside}
use Rattle.aries.specs.CopyRuns.{run, moved_sheet}
use Rattle.aries.specs.CopyBlocks.{CopyLinesRun, Reached, start, next, Ordinary, ReachedOrdinary, OriginMoves}
use Rattle.aries.proofs.Points.{⊕-swap}
use Rattle.aries.proofs.Calls.{begin-ok}
use Rattle.aries.proofs.Kept.{run_line_outside_keeps}

-- a line that decodes is not blank
pub not_blank : (r : Reader) (i : Instruction) → decode r [] ≡ Ok i → ⊥
unfolding decode
not_blank r i e = let z : ◌≡◌ {A = ℕ} 0 1 = cc in omega arith

pub copy-lines_run : CopyLinesRun
unfolding run_block_outside carry_out carry_outside run
copy-lines_run text after line [] ls p i k running may e b = absurd (not_blank (reader_of (ordinary_frame p.setup) p.progress.state) i e)
copy-lines_run text after line (c ∷ l) ls p i k running may e b =
    ap (λ (t : Stage). elim (is_storing t) as (λ _. Out (Made Program)) [ true ↦ pass_over (c ∷ l) p | false ↦ run_block_outside j text after line (c ∷ l) ls p ]) running
    ∙ ap (λ (x : Out Begun). ◌>>=◌ x goes_on) (begin-ok j (ordinary_frame p.setup) line (c ∷ l) p.progress may i e)
    ∙ ap₂ (λ (t : Stage) (d : Block). ◌>>=◌ (need (in_place t d) OutOfPlace line) (λ _. carry_out j text after line ls d (with_progress p began))) running b
  where
    j : Judging
    j = limits p.setup.job

    began : Progress
    began = begun (is_counted (c ∷ l)) i.measure p.progress

    goes_on : Begun → Out (Made Program)
    goes_on x = do
      _ ← need (in_place p.stage x.block) OutOfPlace line
      carry_out j text after line ls x.block (with_progress p x.progress)

-- the origin is as it should be, and the job is the caller's
abbrev Held : Job → Setup → Type 0
Held job s = Ordinary s × (s.job ≡ job)

reached-held : (job : Job) (text : List ℕ) (at line : ℕ) (ls : List (List ℕ)) (p : Program) → Reached job text at line ls p → Held job p.setup
reached-held job text at line ls p start = (refl, refl)
reached-held job text at line ls p (next {at = a} {line = k} {l = l} {p = q} {m = m} r e) =
    (run_line_outside_keeps (Held job) (λ s n o. o) (λ s sheet offset o. (refl, o.1)) _ text _ k l ls q (reached-held job text a k (l ∷ ls) q r)).kept m e

pub reached_ordinary : ReachedOrdinary
reached_ordinary job text at line ls p r = reached-held job text at line ls p r

pub origin_moves : OriginMoves
origin_moves v s t l e m o ordinary ordinary' =
    ap (λ (p : Point). p ⊕ v) (ordinary ∙ ap (λ (x : Option Layout). reference_of x ⊕ s.offset) e)
    ∙ ⊕-swap l.reference s.offset v
    ∙ sym (ordinary' ∙ ap₂ (λ (x : Option Layout) (q : Point). reference_of x ⊕ q) (sym m ∙ ap (moved_sheet v) e) (sym o))
