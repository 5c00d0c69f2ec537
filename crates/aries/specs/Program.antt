-- The whole program: blocks outside bodies, their order, and the answer to a text. (Document 01, "The seventeen refusals,
-- in checking order"; refusals 1, 2, 3, 7, 8 and 9.)
use Rattle.std.specs.Prelude.{Bool, true, false, not, List, [], ◌∷◌, ◌++◌, ℕ, suc, ◌+◌, ◌-◌, ℤ, pos, length, replicate, Err, Ok, Option, Some, None}
use Rattle.aries.specs.declared.refusal.Refusal.TheVariants.{TextLength, StrayByte, OutOfPlace, NoMachine, NotClosed}
use Rattle.aries.specs.declared.block.Outside.{Outside}
use Rattle.aries.specs.declared.block.Block.{Block}
use Rattle.aries.specs.declared.job.Job.{Job}
use Rattle.aries.specs.declared.machine.Machine.{Machine}
use Rattle.aries.specs.declared.point.Point.{Point}
use Rattle.aries.specs.declared.setup.Setup.{Setup}
use Rattle.aries.specs.declared.setup.Stage.{Stage}
use Rattle.aries.specs.declared.setup.Stage.TheVariants.{Fresh, Running, Storing, Ended}
use Rattle.aries.specs.declared.setup.Program.{Program}
use Rattle.aries.specs.declared.state.Progress.{Progress}
use Rattle.aries.specs.Outcome.{refusal_number, Out, refused, ◌>>=◌, need}
use Rattle.aries.specs.Test.{within}
use Rattle.aries.specs.Letters.{letter_v}
use Rattle.aries.specs.Text.{longest, stray_line, without_spaces, lines, starts_with}
use Rattle.aries.specs.declared.entry.Entry.{Entry}
use Rattle.aries.specs.Tally.{tally_of, no_tally}
use Rattle.aries.specs.Entries.{cells, Made, no_entry, and_then, map_after}
use Rattle.aries.specs.Judging.{Judging, lending, limits}
use Rattle.aries.specs.Reader.{setting_of}
use Rattle.aries.specs.Machine.{named}
use Rattle.aries.specs.Moves.{moved_to, with_state, fresh_progress}
use Rattle.aries.specs.Macros.{no_macros, bodies_of, most_calls, call, carry, begin}
use Rattle.aries.specs.Setup.{fresh_setup, with_machine, set_origin, offset_by, ordinary_frame}
use Rattle.aries.specs.Layouts.{copy_part}
use Rattle.aries.specs.Bodies.{Store, with_stored, open_body}

-- ---- A program under way, changed in one respect

abbrev pub with_progress : Program → Progress → Program
with_progress p g = record p { progress = g }

abbrev pub with_setup : Program → Setup → Program
with_setup p s = record p { setup = s }

abbrev pub at_stage : Stage → Program → Program
at_stage t p = record p { stage = t }

-- At the start nothing is stored.
abbrev pub fresh_program : Job → Program
fresh_program job = record { stage = Fresh; setup = fresh_setup job; macros = no_macros; progress = fresh_progress }

-- ---- The order of blocks (refusal 7)

abbrev pub is_machine : Outside → Bool
is_machine (Outside.Machine q) = true
is_machine Outside.End = false
is_machine (Outside.Offset a) = false
is_machine (Outside.Layout l) = false
is_machine (Outside.Open n) = false
is_machine (Outside.Close n) = false
is_machine (Outside.Copy c) = false

-- a block is G92
abbrev pub starts_program : Block → Bool
starts_program (Block.Direct d) = false
starts_program (Block.Call c) = false
starts_program (Block.Outside o) = is_machine o

-- The first block is G92, G92 comes once, and nothing follows G50.
abbrev pub in_place : Stage → Block → Bool
in_place Fresh b = starts_program b
in_place Running b = not (starts_program b)
in_place Storing b = false
in_place Ended b = false

-- ---- Blocks outside bodies

-- G92 makes its X, Y the current point.
abbrev pub start_as : Program → Point → Machine → Program
start_as p q m =
    record p {
      stage = Running;
      setup = with_machine p.setup m;
      progress = with_state p.progress (moved_to p.progress.state q);
    }

-- 8: G92 names one of the machines.
abbrev pub started : Program → Point → ℕ → Option Machine → Out (Made Program)
started p q line None = refused NoMachine line
started p q line (Some m) = no_entry (start_as p q m)

-- G93 and G98: neither moves the current point or drops a waiting origin.
abbrev pub settled : Program → Out Setup → Out (Made Program)
settled p out = do
  s ← out
  no_entry (with_setup p s)

-- after a U line the lines of its body are passed over
abbrev pub with_store : Program → Store → Program
with_store p st = record p { stage = Storing; macros = st.macros; progress = st.progress }

-- A block that stands only outside bodies. The next line starts at a place of the text, and the lines given follow.
unfoldable pub carry_outside : Judging → List ℕ → ℕ → ℕ → List (List ℕ) → Outside → Program → Out (Made Program)
unfolding named set_origin open_body copy_part bodies_of
carry_outside j text next line ls (Outside.Machine q) p = started p q line (named q)
carry_outside j text next line ls Outside.End p = no_entry (at_stage Ended p)
carry_outside j text next line ls (Outside.Offset a) p = settled p (set_origin j line p.setup.sheet (offset_by a p.setup.offset) p.setup)
carry_outside j text next line ls (Outside.Layout l) p = settled p (set_origin j line (Some l) p.setup.offset p.setup)
carry_outside j text next line ls (Outside.Open n) p = map_after (with_store p) (open_body j text n next line ls p.setup (with_stored p.macros p.progress))
carry_outside j text next line ls (Outside.Close n) p = refused NotClosed line
carry_outside j text next line ls (Outside.Copy c) p = map_after (with_progress p) (copy_part j (bodies_of text p.macros) p.setup line c p.progress)

-- a direct block or a call, as in a body; four calls may be opened
abbrev pub carry_inside : Judging → List ℕ → ℕ → Block → Program → Out (Made Program)
carry_inside j text line b p =
    map_after (with_progress p) (carry j (call j (bodies_of text p.macros) most_calls) (ordinary_frame p.setup) line b p.progress)

-- One block that has begun and is in its place.
unfoldable pub carry_out : Judging → List ℕ → ℕ → ℕ → List (List ℕ) → Block → Program → Out (Made Program)
unfolding carry call carry_outside bodies_of
carry_out j text next line ls (Block.Direct d) p = carry_inside j text line (Block.Direct d) p
carry_out j text next line ls (Block.Call c) p = carry_inside j text line (Block.Call c) p
carry_out j text next line ls (Block.Outside o) p = carry_outside j text next line ls o p

-- ---- Lines

abbrev pub is_storing : Stage → Bool
is_storing Fresh = false
is_storing Running = false
is_storing Storing = true
is_storing Ended = false

-- A line between a U line and its V line was read with the U line; the V line ends that.
abbrev pub pass_over : List ℕ → Program → Out (Made Program)
pass_over l p = elim (starts_with letter_v l) [ true ↦ no_entry (at_stage Running p) | false ↦ no_entry p ]

-- A block outside bodies.
unfoldable pub run_block_outside : Judging → List ℕ → ℕ → ℕ → List ℕ → List (List ℕ) → Program → Out (Made Program)
unfolding begin carry_out
run_block_outside j text next line l ls p = do
  b ← begin j (ordinary_frame p.setup) line l p.progress
  _ ← need (in_place p.stage b.block) OutOfPlace line
  carry_out j text next line ls b.block (with_progress p b.progress)

-- a blank line does nothing
abbrev pub run_line_outside : Judging → List ℕ → ℕ → ℕ → List ℕ → List (List ℕ) → Program → Out (Made Program)
run_line_outside j text next line [] ls p = no_entry p
run_line_outside j text next line (b ∷ bs) ls p = elim (is_storing p.stage) [
  | true ↦ pass_over (b ∷ bs) p
  | false ↦ run_block_outside j text next line (b ∷ bs) ls p
]

-- the lines of a text from a place on, the first with a number
unfoldable pub run_from : Judging → List ℕ → ℕ → ℕ → List (List ℕ) → Program → Out (Made Program)
unfolding run_block_outside
run_from j text at line [] p = no_entry p
run_from j text at line (l ∷ ls) p =
    and_then (run_line_outside j text (at + length l + 1) line l ls p) (run_from j text (at + length l + 1) (suc line) ls)

-- ---- The text

abbrev pub is_ended : Stage → Bool
is_ended Fresh = false
is_ended Running = false
is_ended Storing = false
is_ended Ended = true

-- 2: the first byte that is not allowed
abbrev pub no_stray : Option ℕ → Out (Unit {0})
no_stray None = Ok tt
no_stray (Some line) = refused StrayByte line

-- the blocks of a text without spaces; it ends with G50, else it is refused in the last line
unfoldable pub perform : Job → List ℕ → ℕ → Out (List Entry)
unfolding run_from lines
perform job text last = do
  m ← run_from (limits job) text 0 1 (lines text) (fresh_program job)
  _ ← need (is_ended m.after.stage) OutOfPlace last
  Ok m.entries

-- The entries of a text, or its refusal, at a setting that the caller states by a number, with a lent list of so many numbers. 1
-- and 2 look at the whole text first.
unfoldable pub expand : ℤ → List ℕ → ℕ → Out (List Entry)
unfolding perform stray_line without_spaces
expand setting text numbers = do
  _ ← need (within 1 longest (length text)) TextLength 0
  _ ← no_stray (stray_line 1 text)
  perform (lending (setting_of setting) numbers) (without_spaces text) (length (lines text))

-- ---- The answer

-- the number of entries, or a refusal with its line
abbrev pub answer_of : Out (List Entry) → Out ℕ
answer_of (Ok entries) = Ok (length entries)
answer_of (Err e) = Err e

-- the paper's number, count and line of an answer; a number and a line after acceptance and a count after a refusal are 0
abbrev pub number_of : Out ℕ → ℕ
number_of (Ok count) = 0
number_of (Err e) = refusal_number e.refusal

abbrev pub count_of : Out ℕ → ℕ
count_of (Ok count) = count
count_of (Err e) = 0

abbrev pub line_of : Out ℕ → ℕ
line_of (Ok count) = 0
line_of (Err e) = e.line

-- The lent list afterwards, so many numbers long: the entries, and the rest, after a refusal all of it, zero.
unfoldable pub list_of : ℕ → Out (List Entry) → List ℤ
unfolding cells
list_of numbers (Ok entries) = cells entries ++ replicate (numbers - length (cells entries)) (pos 0)
list_of numbers (Err e) = replicate numbers (pos 0)

-- The lent tally afterwards: that of the entries; after a refusal all of it is zero.
unfoldable pub tally_for : Out (List Entry) → List ℕ
unfolding tally_of
tally_for (Ok entries) = tally_of entries
tally_for (Err e) = no_tally
