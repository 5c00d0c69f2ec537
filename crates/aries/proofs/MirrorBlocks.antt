-- A G73 block of a program is a run, in a body and outside bodies.
use Rattle.std.specs.Prelude.{Ok}
use mathlib.Core.Path.{◌≡◌, ap, ap₂, ◌∙◌}
use mathlib.Core.Bool.{true, false}
use mathlib.Core.List.{List, [], ◌∷◌}
use Prim.Native.Nat.{ℕ}
use Rattle.aries.specs.declared.refusal.Refusal.TheVariants.{OutOfPlace}
use Rattle.aries.specs.declared.block.Mirroring.{Mirroring}
use Rattle.aries.specs.declared.block.Call.TheVariants.{Mirrored}
use Rattle.aries.specs.declared.block.Block.{Block}
use Rattle.aries.specs.declared.block.Block.TheVariants.{Call}
use Rattle.aries.specs.declared.block.Instruction.{Instruction}
use Rattle.aries.specs.declared.setup.Stage.{Stage}
use Rattle.aries.specs.declared.setup.Stage.TheVariants.{Running}
use Rattle.aries.specs.declared.setup.Program.{Program}
use Rattle.aries.specs.declared.state.Frame.{Frame}
use Rattle.aries.specs.declared.state.Progress.{Progress}
use Rattle.aries.specs.Outcome.{Out, ◌>>=◌, need}
use Rattle.aries.specs.Entries.{Made, map_after}
use Rattle.aries.specs.Judging.{Judging, limits}
use Rattle.aries.specs.Blocks.{decode}
use Rattle.aries.specs.Reader.{reader_of}
use Rattle.aries.specs.Setup.{ordinary_frame}
use Rattle.aries.specs.Macros.{Begun, Bodies, Calls, bodies_of, is_counted, may_come, begun, carry, run_block, run_line, call, most_calls}
use Rattle.aries.specs.Program.{with_progress, in_place, carry_out, is_storing, pass_over, run_block_outside, run_line_outside}
use Rattle.aries.specs.MirrorRuns.{run_by}
use Rattle.aries.specs.MirrorBlocks.{mirror_run, MirrorLinesRun}
use Rattle.aries.proofs.Calls.{begin-ok}
use Rattle.aries.proofs.CopyBlocks.{not_blank}

inside :
    (bodies : Bodies) (d : ℕ) (f : Frame) (line : ℕ) (l : List ℕ) (g : Progress) (i : Instruction) (m : Mirroring)
    → may_come (limits f.job) l g ≡ true → decode (reader_of f g.state) l ≡ Ok i → i.block ≡ Call (Mirrored m)
    → run_line (limits f.job) (call (limits f.job) bodies d) f line l g
    ≡ run_by m.way (mirror_run bodies d f line m (begun (is_counted l) i.measure g))
unfolding run_block carry run_by
inside bodies d f line [] g i m may e b = absurd (not_blank (reader_of f g.state) i e)
inside bodies d f line (c ∷ l) g i m may e b =
    ap (λ (x : Out Begun). ◌>>=◌ x (λ y. carry j calls f line y.block y.progress)) (begin-ok j f line (c ∷ l) g may i e)
    ∙ ap (λ (k : Block). carry j calls f line k (begun (is_counted (c ∷ l)) i.measure g)) b
  where
    j : Judging
    j = limits f.job

    calls : Calls
    calls = call j bodies d

outside :
    (text : List ℕ) (next line : ℕ) (l : List ℕ) (ls : List (List ℕ)) (p : Program) (i : Instruction) (m : Mirroring)
    → p.stage ≡ Running → may_come (limits p.setup.job) l p.progress ≡ true
    → decode (reader_of (ordinary_frame p.setup) p.progress.state) l ≡ Ok i → i.block ≡ Call (Mirrored m)
    → run_line_outside (limits p.setup.job) text next line l ls p
    ≡ map_after (with_progress p)
    (run_by m.way (mirror_run (bodies_of text p.macros) most_calls (ordinary_frame p.setup) line m (begun (is_counted l) i.measure p.progress)))
unfolding run_block_outside carry_out carry run_by
outside text next line [] ls p i m running may e b = absurd (not_blank (reader_of (ordinary_frame p.setup) p.progress.state) i e)
outside text next line (c ∷ l) ls p i m running may e b =
    ap (λ (t : Stage). elim (is_storing t) as (λ _. Out (Made Program)) [ true ↦ pass_over (c ∷ l) p | false ↦ run_block_outside j text next line (c ∷ l) ls p ]) running
    ∙ ap (λ (x : Out Begun). ◌>>=◌ x goes_on) (begin-ok j (ordinary_frame p.setup) line (c ∷ l) p.progress may i e)
    ∙ ap₂ (λ (t : Stage) (k : Block). ◌>>=◌ (need (in_place t k) OutOfPlace line) (λ _. carry_out j text next line ls k (with_progress p began))) running b
  where
    j : Judging
    j = limits p.setup.job

    began : Progress
    began = begun (is_counted (c ∷ l)) i.measure p.progress

    goes_on : Begun → Out (Made Program)
    goes_on x = do
      _ ← need (in_place p.stage x.block) OutOfPlace line
      carry_out j text next line ls x.block (with_progress p x.progress)

pub mirror_lines_run : MirrorLinesRun
mirror_lines_run = record { inside = inside; outside = outside }
