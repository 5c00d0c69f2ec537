-- What decoding answers of the line at a place of a text.
use Rattle.std.specs.Prelude.{List, ℕ, Result, Ok, Err}
use Rattle.aries.specs.declared.block.Instruction.{Instruction}
use Rattle.aries.specs.declared.reader.Reader.{Reader}
use Rattle.aries.specs.declared.refusal.Refusal.{Refusal}
use Rattle.aries.specs.Blocks.{decode}
use Rattle.text.specs.Lines.{line_at, line_end}

-- an instruction with the place where its line ends, or the refusal
abbrev pub decoded_of : ℕ → Result Instruction Refusal → Result (Instruction × ℕ) Refusal
decoded_of end (Ok i) = Ok (i, end)
decoded_of end (Err refusal) = Err refusal

abbrev pub decoded_at : Reader → List ℕ → ℕ → Result (Instruction × ℕ) Refusal
decoded_at r t at = decoded_of (line_end t at) (decode r (line_at t at))
