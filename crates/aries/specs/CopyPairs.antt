-- A pair of programs that the statements of demand 3 compare: two texts that call one part, the one by G75 and the other
-- by G76.
use Rattle.std.specs.Prelude.{◌≡◌, Bool, true, false, List, ◌∷◌, ◌++◌, ℕ, Ok}
use Prim.Native.String.{String}
use Rattle.aries.specs.declared.block.Copies.{Copies}
use Rattle.aries.specs.declared.block.Outside.TheVariants.{Copy}
use Rattle.aries.specs.declared.block.Block.TheVariants.{Outside}
use Rattle.aries.specs.declared.block.Instruction.{Instruction}
use Rattle.aries.specs.declared.job.Job.{Job}
use Rattle.aries.specs.declared.reader.Setting.TheVariants.{Hundredths}
use Rattle.aries.specs.declared.setup.Program.{Program}
use Rattle.aries.specs.Text.{bytes}
use Rattle.aries.specs.Judging.{lending}
use Rattle.aries.specs.Blocks.{decode}
use Rattle.aries.specs.Macros.{is_counted, begun}
use Rattle.aries.specs.Reader.{reader_of}
use Rattle.aries.specs.Setup.{ordinary_frame}
use Rattle.aries.specs.Program.{with_progress}
use Rattle.aries.specs.CopyRuns.{Circumstances, AllAlike}
use Rattle.aries.specs.CopyBlocks.{circumstances, Reached}

-- a text comes to a G75 block, or vertical to a G76 block, and this is what the block finds, itself counted
pub record ComesTo (job : Job) (text : List ℕ) (vertical : Bool) (c : Circumstances) : Type 0 where
  pub at : ℕ
  pub line : ℕ
  pub block : List ℕ
  pub after : List (List ℕ)
  pub program : Program
  pub reached : Reached job text at line (block ∷ after) program
  pub instruction : Instruction
  pub decoded : decode (reader_of (ordinary_frame program.setup) program.progress.state) block ≡ Ok instruction
  pub copies : Copies
  pub asks : instruction.block ≡ Outside (Copy copies)
  pub order : copies.vertical ≡ vertical
  pub found : c ≡ circumstances text line copies (with_progress program (begun (is_counted block) instruction.measure program.progress))

-- a sheet of two by two places with a part of one hit, which a code calls
unfoldable pub sheet_by : String → List ℕ
unfolding bytes
sheet_by code = bytes "G92X600.Y600.\nG98X0Y0I10.J10.P1K1\nU60\nX1.Y1.T2\nV60\n" ++ bytes code ++ bytes "W60Q1\nG50"

-- places for 4,096 entries
abbrev pub job : Job
job = lending Hundredths 16384

-- What the G75 block of the one text finds is alike to what the G76 block of the other finds, in all that demand 3 asks for.
pub record PairAlike : Type 0 where
  pub first : Circumstances
  pub second : Circumstances
  pub by75 : ComesTo job (sheet_by "G75") false first
  pub by76 : ComesTo job (sheet_by "G76") true second
  pub alike : AllAlike first second
