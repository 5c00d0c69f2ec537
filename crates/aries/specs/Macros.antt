-- Macros: the bodies that are stored, and running them. (Document 01, "Macros and layouts"; document 02, §5; refusals 3 to 7, 10
-- and 11.)
use Rattle.std.specs.Prelude.{Bool, not, cond, ◌||◌, List, [], ◌∷◌, ℕ, zero, suc, ◌+◌, ◌-◌, get_or, set, take, drop, replicate, None, Ok, Option, Some}
use Rattle.aries.specs.declared.macros.Start.{Start}
use Rattle.aries.specs.declared.macros.StoredBody.{StoredBody}
use Rattle.aries.specs.declared.refusal.Refusal.TheVariants.{BlocksSpent, OutOfPlace, NotStored, TooDeep}
use Rattle.aries.specs.declared.block.Direct.{Direct}
use Rattle.aries.specs.declared.block.Direct.TheVariants.{Lone, Punch, Move, PatternOrigin, RunPattern, Recall, Nibble, Idle, Stop}
use Rattle.aries.specs.declared.block.Call.{Call}
use Rattle.aries.specs.declared.block.Call.TheVariants.{Plain, Mirrored}
use Rattle.aries.specs.declared.block.Block.{Block}
use Rattle.aries.specs.declared.block.Measure.{Measure}
use Rattle.aries.specs.declared.block.Instruction.{Instruction}
use Rattle.aries.specs.declared.macros.Macros.{Macros}
use Rattle.aries.specs.declared.state.Frame.{Frame}
use Rattle.aries.specs.declared.state.Progress.{Progress}
use Rattle.aries.specs.Outcome.{Out, refused, ◌>>=◌, need, given, in_line}
use Rattle.aries.specs.Letters.{letter_v}
use Rattle.aries.specs.Text.{lines, starts_with}
use Rattle.aries.specs.Reader.{reader_of}
use Rattle.aries.specs.Numbers.{last_macro}
use Rattle.aries.specs.Blocks.{decode}
use Rattle.aries.specs.Entries.{Made, no_entry, and_then, map_after}
use Rattle.aries.specs.Judging.{Judging, room}
use Rattle.aries.specs.Mirrors.{mirrored}
use Rattle.aries.specs.Moves.{measuring, dropping, standing_at, giving, mirror_spans, in_mode, with_state, position, move, set_pattern_origin, stop}
use Rattle.aries.specs.Patterns.{run_pattern, recall}

-- ---- Bodies

-- Each number holds at most one body; the list counts from 0, which no macro has.
abbrev pub no_macros : Macros
no_macros = record { starts = replicate (suc last_macro) None; ends = replicate (suc last_macro) 0 }

-- a body from a start, if there is one, to an end
abbrev pub body_between : Option Start → ℕ → Option StoredBody
body_between None end = None
body_between (Some s) end = Some (record { start = s.offset; end = end; line = s.line })

-- where the body of a macro lies, and the line of its start, if it is stored
abbrev pub found_in : Macros → ℕ → Option StoredBody
found_in m n = body_between (get_or m.starts n None) (get_or m.ends n 0)

-- a macro's body, the part of the program text between its U line and its V line, and the number of its first line
pub record Body : Type 0 where
  pub line : ℕ
  pub bytes : List ℕ

-- the part of a text from one place to another
unfoldable pub part : List ℕ → ℕ → ℕ → List ℕ
part text start end = take (end - start) (drop start text)

abbrev pub body_at : List ℕ → Option StoredBody → Option Body
body_at text None = None
body_at text (Some b) = Some (record { line = b.line; bytes = part text b.start b.end })

-- what is stored under each number
abbrev pub Bodies : Type 0
Bodies = ℕ → Option Body

unfoldable pub bodies_of : List ℕ → Macros → Bodies
unfolding part
bodies_of text m n = body_at text (found_in m n)

-- where a stored body starts, and its line
abbrev pub body_start : StoredBody → Start
body_start b = record { offset = b.start; line = b.line }

-- storing again replaces
abbrev pub storing : Macros → ℕ → StoredBody → Macros
storing m n b = record { starts = set m.starts n (Some (body_start b)); ends = set m.ends n b.end }

-- Body characters are its non-space bytes and line feeds: all of it, the text being without spaces.
abbrev pub stored_size : Option StoredBody → ℕ
stored_size None = 0
stored_size (Some b) = b.end - b.start

-- those of the bodies from these starts to these ends
abbrev pub sizes : List (Option Start) → List ℕ → ℕ
sizes [] es = 0
sizes (s ∷ ss) [] = 0
sizes (s ∷ ss) (e ∷ es) = stored_size (body_between s e) + sizes ss es

-- the characters of all bodies stored
unfoldable pub characters : Macros → ℕ
characters m = sizes m.starts m.ends

-- ---- Blocks that may stand in a body

-- One direct block that has been decoded and counted. A lone G90 or G91 has set how X and Y are read as it began, punches
-- nothing, and counts as a position block. T without X or Y stands only beside a pattern code. B runs a pattern and is no
-- call. M12 and M13 set the mode, M08 and M09 do nothing, M00 and M01 are stops.
unfoldable pub carry_direct : Judging → Frame → ℕ → Direct → Progress → Out (Made Progress)
unfolding position move set_pattern_origin run_pattern recall
carry_direct j f line Lone g = no_entry (with_state g (dropping g.state))
carry_direct j f line (Punch a t) g = position j f line a t g
carry_direct j f line (Move a t) g = move j f line a t g
carry_direct j f line (PatternOrigin a) g = set_pattern_origin j f line a g
carry_direct j f line (RunPattern p t a) g = run_pattern j f line p t a g
carry_direct j f line (Recall n) g = recall j f line n g
carry_direct j f line (Nibble b) g = no_entry (with_state g (in_mode g.state b))
carry_direct j f line Idle g = no_entry g
carry_direct j f line (Stop optional) g = stop j line optional g

-- what a call of a macro does, by the frame, its number and the line of the call
abbrev pub Calls : Type 0
Calls = Frame → ℕ → ℕ → Progress → Out (Made Progress)

-- the state with the current point at the origin of a frame, and no pattern origin waiting
abbrev pub at_origin : Frame → Progress → Progress
at_origin f g = with_state g (standing_at g.state f.origin)

-- G73 runs its macro in the local frame of the origin, seen in a mirror of its own inside those that are open. Its letters are
-- given as it begins. The macro begins at the origin with no waiting origin, and afterwards it is the same; all else is as the
-- macro leaves it.
abbrev pub call_mirrored : Calls → Frame → ℕ → ℕ → ℕ → Progress → Out (Made Progress)
call_mirrored call f line way part g =
    map_after (at_origin f) (call (mirrored way (mirror_spans g.state) f) part line (at_origin f g))

-- a block that calls a macro: W, with the state as it is, or G73
abbrev pub carry_call : Calls → Frame → ℕ → Call → Progress → Out (Made Progress)
carry_call call f line (Plain n) g = call f n line g
carry_call call f line (Mirrored m) g = call_mirrored call f line m.way m.part (with_state g (giving g.state m.axes))

-- One block of a body that has been decoded and counted. Those that stand only outside bodies, G50, G75, G76, G92, G93 and
-- G98, are in a wrong place there. No body of a text has a U or V line in it; as a block it would be in a wrong place too.
unfoldable pub carry : Judging → Calls → Frame → ℕ → Block → Progress → Out (Made Progress)
unfolding carry_direct
carry j call f line (Block.Direct d) g = carry_direct j f line d g
carry j call f line (Block.Call c) g = carry_call call f line c g
carry j call f line (Block.Outside o) g = refused OutOfPlace line

-- ---- A block begins

-- V lines are not counted
abbrev pub is_counted : List ℕ → Bool
is_counted l = not (starts_with letter_v l)

-- 3: another block may come
abbrev pub may_come : Judging → List ℕ → Progress → Bool
may_come j l g = not (is_counted l) || room j.blocks g.blocks

-- it counts, and its G90 or G91 holds
abbrev pub begun : Bool → Option Measure → Progress → Progress
begun counted m g = record { state = measuring g.state m; blocks = cond counted (g.blocks + 1) g.blocks; entries = g.entries }

-- the block of a line, and the progress as the block finds it
pub record Begun : Type 0 where
  pub block : Block
  pub progress : Progress

abbrev pub begun_by : List ℕ → Progress → Instruction → Begun
begun_by l g i = record { block = i.block; progress = begun (is_counted l) i.measure g }

-- the block of a line begins: 3, then 4 to 6
unfoldable pub begin : Judging → Frame → ℕ → List ℕ → Progress → Out Begun
unfolding decode
begin j f line l g = do
  _ ← need (may_come j l g) BlocksSpent line
  i ← in_line line (decode (reader_of f g.state) l)
  Ok (begun_by l g i)

-- ---- The lines of a body

unfoldable pub run_block : Judging → Calls → Frame → ℕ → List ℕ → Progress → Out (Made Progress)
unfolding begin carry
run_block j call f line l g = do
  b ← begin j f line l g
  carry j call f line b.block b.progress

-- a blank line does nothing
abbrev pub run_line : Judging → Calls → Frame → ℕ → List ℕ → Progress → Out (Made Progress)
run_line j call f line [] g = no_entry g
run_line j call f line (b ∷ bs) g = run_block j call f line (b ∷ bs) g

-- lines in turn, the first with a number
unfoldable pub run_lines : Judging → Calls → Frame → ℕ → List (List ℕ) → Progress → Out (Made Progress)
unfolding run_block
run_lines j call f line [] g = no_entry g
run_lines j call f line (l ∷ ls) g = and_then (run_line j call f line l g) (run_lines j call f (suc line) ls)

-- ---- Calls: W and G73, here; G75 and G76 (Layouts.copy_part); the first run of macros 1 to 59 (Bodies.open_body)

-- A call of macro n, of what is stored, with d further calls to open, counted with this one. It goes on with the state as it is.
unfoldable pub call : Judging → Bodies → ℕ → Calls
unfolding run_lines lines
call j bodies zero f n line g = do
  b ← given (bodies n) NotStored line
  refused TooDeep line
call j bodies (suc d) f n line g = do
  b ← given (bodies n) NotStored line
  run_lines j (call j bodies d) f b.line (lines b.bytes) g

-- at most four calls are open
abbrev pub most_calls : ℕ
most_calls = 4

-- a body carried out in a call that leaves d further ones to open
unfoldable pub run_body : Judging → Bodies → ℕ → Frame → Body → Progress → Out (Made Progress)
unfolding run_lines call lines
run_body j bodies d f b g = run_lines j (call j bodies d) f b.line (lines b.bytes) g
