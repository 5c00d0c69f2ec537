-- U and V lines: where the body of a U line ends, storing it, and its first run. (Document 01, "Macros and layouts";
-- refusals 9 and 12.)
use Rattle.std.specs.Prelude.{Bool, true, false, cond, ◌||◌, List, [], ◌∷◌, ℕ, suc, ◌+◌, ◌-◌, eqb, leb, length, Err, None, Ok, Option, Some, Result}
use Rattle.aries.specs.declared.block.Layout.{Layout}
use Rattle.aries.specs.declared.refusal.Refusal.{Refusal}
use Rattle.aries.specs.declared.refusal.Refusal.TheVariants.{NotClosed, StoreFull}
use Rattle.aries.specs.declared.block.Outside.{Outside}
use Rattle.aries.specs.declared.block.Block.{Block}
use Rattle.aries.specs.declared.block.Instruction.{Instruction}
use Rattle.aries.specs.declared.macros.Macros.{Macros}
use Rattle.aries.specs.declared.setup.Setup.{Setup}
use Rattle.aries.specs.declared.state.Progress.{Progress}
use Rattle.aries.specs.Outcome.{Out, ◌>>=◌, need, given}
use Rattle.aries.specs.Letters.{letter_u, letter_v}
use Rattle.aries.specs.Text.{starts_with}
use Rattle.aries.specs.declared.reader.Reader.{Reader}
use Rattle.aries.specs.Reader.{reader_of}
use Rattle.aries.specs.Blocks.{decode}
use Rattle.aries.specs.Entries.{Made, no_entry, map_after}
use Rattle.aries.specs.Judging.{Judging}
use Rattle.aries.specs.Macros.{Body, part, bodies_of, storing, characters, most_calls, run_body}
use Rattle.aries.specs.Setup.{ordinary_frame}

-- ---- Where a body ends

-- V n
abbrev pub is_close : ℕ → Outside → Bool
is_close n (Outside.Machine q) = false
is_close n Outside.End = false
is_close n (Outside.Offset a) = false
is_close n (Outside.Layout l) = false
is_close n (Outside.Open k) = false
is_close n (Outside.Close k) = eqb k n
is_close n (Outside.Copy c) = false

abbrev pub closes : ℕ → Block → Bool
closes n (Block.Direct d) = false
closes n (Block.Call k) = false
closes n (Block.Outside o) = is_close n o

abbrev pub is_close_of : ℕ → Result Instruction Refusal → Bool
is_close_of n (Err number) = false
is_close_of n (Ok i) = closes n i.block

-- a U line's own V: a line of one valid V word with the same number and nothing else
unfoldable pub is_own_close : Reader → ℕ → List ℕ → Bool
unfolding decode
is_own_close r n l = is_close_of n (decode r l)

-- a U or V line
abbrev pub is_mark : List ℕ → Bool
is_mark l = starts_with letter_u l || starts_with letter_v l

abbrev pub longer : ℕ → Option ℕ → Option ℕ
longer k None = None
longer k (Some n) = Some (k + n)

-- the bytes of the lines before the next U or V line, line feeds included, if that line is the own V of number n
unfoldable pub body_size : Reader → ℕ → List (List ℕ) → Option ℕ
unfolding is_own_close
body_size r n [] = None
body_size r n (l ∷ ls) = elim (is_mark l) [
  | true ↦ cond (is_own_close r n l) (Some 0) None
  | false ↦ longer (length l + 1) (body_size r n ls)
]

-- ---- U lines

-- the most characters that stored bodies may have
abbrev pub most_characters : ℕ
most_characters = 3100

-- 1 to 59 run the body once, then store; 60 to 89 only store, and while G98 is in force 1 to 59 only store as well
abbrev pub runs_first : ℕ → Option Layout → Bool
runs_first n None = leb n 59
runs_first n (Some l) = false

-- the first run, a call: it finds the bodies that were stored before
unfoldable pub first_run : Judging → List ℕ → Macros → ℕ → Body → Setup → Progress → Out (Made Progress)
unfolding run_body bodies_of
first_run j text m n b s g = elim (runs_first n s.sheet) [
  | true ↦ run_body j (bodies_of text m) (most_calls - 1) (ordinary_frame s) b g
  | false ↦ no_entry g
]

-- the body of a U line in a line with a number: so many bytes from a place of the text on
abbrev pub body_from : List ℕ → ℕ → ℕ → ℕ → Body
body_from text start size line = record { line = suc line; bytes = part text start (start + size) }

abbrev pub stored_at : Macros → ℕ → ℕ → ℕ → ℕ → Macros
stored_at m n start size line = storing m n (record { start = start; end = start + size; line = suc line })

-- what a U line may change: the bodies that are stored, and the progress by the first run
pub record Store : Type 0 where
  pub macros : Macros
  pub progress : Progress

abbrev pub with_stored : Macros → Progress → Store
with_stored m g = record { macros = m; progress = g }

-- The U line of macro n, in a line with a number; its body starts at a place of the text, and the lines given follow it.
-- 9 and 12 are judged at the U line, before its body.
unfoldable pub open_body : Judging → List ℕ → ℕ → ℕ → ℕ → List (List ℕ) → Setup → Store → Out (Made Store)
unfolding body_size first_run characters part
open_body j text n start line ls s st = do
  size ← given (body_size (reader_of (ordinary_frame s) st.progress.state) n ls) NotClosed line
  _ ← need (leb (characters (stored_at st.macros n start size line)) most_characters) StoreFull line
  map_after (with_stored (stored_at st.macros n start size line)) (first_run j text st.macros n (body_from text start size line) s st.progress)
