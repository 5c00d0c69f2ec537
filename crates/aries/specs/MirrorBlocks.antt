-- The lines of a program that ask for G73 are runs that the mirror sentence speaks of, in bodies and outside them.
use Rattle.std.specs.Prelude.{◌≡◌, true, List, ℕ, Ok}
use Rattle.aries.specs.declared.block.Mirroring.{Mirroring}
use Rattle.aries.specs.declared.block.Call.TheVariants.{Mirrored}
use Rattle.aries.specs.declared.block.Block.TheVariants.{Call}
use Rattle.aries.specs.declared.block.Instruction.{Instruction}
use Rattle.aries.specs.declared.setup.Program.{Program}
use Rattle.aries.specs.declared.setup.Stage.TheVariants.{Running}
use Rattle.aries.specs.declared.state.Frame.{Frame}
use Rattle.aries.specs.declared.state.Progress.{Progress}
use Rattle.aries.specs.Entries.{map_after}
use Rattle.aries.specs.Judging.{limits}
use Rattle.aries.specs.Blocks.{decode}
use Rattle.aries.specs.Reader.{reader_of}
use Rattle.aries.specs.Setup.{ordinary_frame}
use Rattle.aries.specs.Macros.{Bodies, bodies_of, is_counted, may_come, begun, run_line, call, most_calls}
use Rattle.aries.specs.Program.{with_progress, run_line_outside}
use Rattle.aries.specs.MirrorRuns.{MirrorRun, run_by}

-- a G73 block in a line with a number, with so many calls to open, in a frame
abbrev pub mirror_run : Bodies → ℕ → Frame → ℕ → Mirroring → Progress → MirrorRun
mirror_run bodies d f line m g =
    record { bodies = bodies; calls = d; frame = f; line = line; part = m.part; axes = m.axes; before = g }

-- A line that decodes as such a block, where another block may come, is its run by the block's Q.
pub record MirrorLinesRun : Type 0 where
  pub inside :
      (bodies : Bodies) (d : ℕ) (f : Frame) (line : ℕ) (l : List ℕ) (g : Progress) (i : Instruction) (m : Mirroring)
      → may_come (limits f.job) l g ≡ true → decode (reader_of f g.state) l ≡ Ok i → i.block ≡ Call (Mirrored m)
      → run_line (limits f.job) (call (limits f.job) bodies d) f line l g
      ≡ run_by m.way (mirror_run bodies d f line m (begun (is_counted l) i.measure g))
  pub outside :
      (text : List ℕ) (next line : ℕ) (l : List ℕ) (ls : List (List ℕ)) (p : Program) (i : Instruction) (m : Mirroring)
      → p.stage ≡ Running → may_come (limits p.setup.job) l p.progress ≡ true
      → decode (reader_of (ordinary_frame p.setup) p.progress.state) l ≡ Ok i → i.block ≡ Call (Mirrored m)
      → run_line_outside (limits p.setup.job) text next line l ls p
      ≡ map_after (with_progress p)
      (run_by m.way (mirror_run (bodies_of text p.macros) most_calls (ordinary_frame p.setup) line m (begun (is_counted l) i.measure p.progress)))
