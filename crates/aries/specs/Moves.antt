-- The punching state, positions, hits and stops. (Document 01, "Moving and punching"; document 02, §3 and §5; refusals 14 to 17.)
use Rattle.std.specs.Prelude.{Bool, true, false, cond, List, [], ◌∷◌, ℕ, ◌+◌, ◌-◌, ℤ, pos, ◌+ℤ◌, set, replicate, Ok, Option, None, Some, unwrap_or}
use Rattle.std.specs.Option.{option_or}
use Rattle.aries.specs.declared.refusal.Refusal.TheVariants.{NoTool, TooFar, OutOfRange, ListFull}
use Rattle.aries.specs.declared.point.Point.{Point}
use Rattle.aries.specs.declared.block.Axes.{Axes}
use Rattle.aries.specs.declared.block.Pattern.{Pattern}
use Rattle.aries.specs.declared.block.Measure.{Measure}
use Rattle.aries.specs.declared.block.Measure.TheVariants.{Absolute, Incremental}
use Rattle.aries.specs.declared.state.State.{State}
use Rattle.aries.specs.declared.state.Frame.{Frame}
use Rattle.aries.specs.declared.state.Progress.{Progress}
use Rattle.aries.specs.Outcome.{Out, ◌>>=◌, need, given}
use Rattle.aries.specs.Numbers.{memory_count}
use Rattle.aries.specs.Machine.{covers, in_range}
use Rattle.aries.specs.Mirrors.{seen}
use Rattle.aries.specs.declared.entry.Entry.{Entry}
use Rattle.aries.specs.Entries.{Made, no_entry}
use Rattle.aries.specs.Judging.{Judging, room, judged, near}

abbrev pub point_at : ℤ → ℤ → Point
point_at x y = record { x = x; y = y }

-- the sheet's zero
abbrev pub zero_point : Point
zero_point = point_at (pos 0) (pos 0)

abbrev pub ◌⊕◌ : Point → Point → Point

infixl 60 ◌⊕◌
p ⊕ q = point_at (p.x +ℤ q.x) (p.y +ℤ q.y)

-- ---- The state (what one block leaves to the next), changed in one respect

-- the current point
abbrev pub moved_to : State → Point → State
moved_to s p = record s { current = p }

-- the pattern origin that waits, or none
abbrev pub waiting_for : State → Option Point → State
waiting_for s w = record s { waiting = w }

-- the mode: M12 sets N, M13 P
abbrev pub in_mode : State → Bool → State
in_mode s n = record s { nibble = n }

-- T, where it is written, chooses the tool.
abbrev pub choosing : State → Option ℕ → State
choosing s t = record s { tool = option_or t s.tool }

-- the memories, with a pattern in that of A, where it is written; A counts from 1
abbrev pub remembered : Option ℕ → Pattern → List (Option Pattern) → List (Option Pattern)
remembered None p memories = memories
remembered (Some n) p memories = set memories (n - 1) (Some p)

-- A stores a pattern.
abbrev pub remembering : State → Option ℕ → Pattern → State
remembering s a p = record s { memories = remembered a p s.memories }

-- G90 or G91 of a block holds for that block already, and on
abbrev pub is_incremental : Option Measure → Bool → Bool
is_incremental None before = before
is_incremental (Some Absolute) before = false
is_incremental (Some Incremental) before = true

abbrev pub measuring : State → Option Measure → State
measuring s m = record s { incremental = is_incremental m s.incremental }

-- A position block drops a waiting pattern origin; a lone G90 or G91 counts as one.
abbrev pub dropping : State → State
dropping s = waiting_for s None

-- at a point, with no pattern origin waiting
abbrev pub standing_at : State → Point → State
standing_at s p = moved_to (dropping s) p

-- a point, with the axes that are written in place of its own
abbrev pub written_over : Axes → Point → Point
written_over a before = point_at (unwrap_or a.x before.x) (unwrap_or a.y before.y)

-- X and Y, each of them as it was before where it is not written
abbrev pub written_or : Axes → Axes → Axes
written_or a before = record { x = option_or a.x before.x; y = option_or a.y before.y }

-- X and Y given in a G73: the last one for each letter, where one has been given
abbrev pub giving : State → Axes → State
giving s a = record s { spans = written_or a s.spans }

-- a and b of a mirror: the X and Y that G73 blocks have given last, zero for one that none has given
abbrev pub mirror_spans : State → Point
mirror_spans s = written_over s.spans zero_point

-- At the start G90 holds, the mode is P, no tool is chosen, nothing is stored and no letter given.
abbrev pub fresh_state : State
fresh_state =
    record {
      current = zero_point;
      waiting = None;
      incremental = false;
      nibble = false;
      tool = None;
      memories = replicate memory_count None;
      spans = record { x = None; y = None };
    }

-- nothing has been carried out and no entry made
abbrev pub fresh_progress : Progress
fresh_progress = record { state = fresh_state; blocks = 0; entries = 0 }

abbrev pub with_state : Progress → State → Progress
with_state g s = record g { state = s }

-- ---- Positions

-- one axis: an omitted one stays; else it is measured from the origin or, under G91, from the current point
abbrev pub axis_target : Option ℤ → Bool → ℤ → ℤ → ℤ
axis_target None incremental origin current = current
axis_target (Some value) incremental origin current = cond incremental current origin +ℤ value

-- the point that a block's X and Y name
abbrev pub target : Frame → State → Axes → Point
target f s a =
    point_at
    (axis_target a.x s.incremental f.origin.x s.current.x)
    (axis_target a.y s.incremental f.origin.y s.current.y)

-- ---- Entries, and what is judged of them

-- an entry is made, and counts
abbrev pub entered : Entry → Progress → Made Progress
entered e g = record { entries = e ∷ []; after = record g { entries = g.entries + 1 } }

-- 17: an entry takes a place of the list
abbrev pub enter : Judging → ℕ → Entry → Progress → Out (Made Progress)
enter j line e g = do
  _ ← need (room j.places g.entries) ListFull line
  Ok (entered e g)

-- a hit with a tool at p, in the mode
abbrev pub hit_of : ℕ → State → Point → Entry
hit_of tool s p = Entry.Hit (record { place = p; tool = tool; nibble = s.nibble })

-- a hit at p with the tool chosen; p becomes the current point: 14 to 17. The hit is made, and judged by 15 and 16, where p is seen
-- after all mirrors.
unfoldable pub punch : Judging → Frame → ℕ → Point → Progress → Out (Made Progress)
unfolding near covers seen
punch j f line p g = do
  tool ← given g.state.tool NoTool line
  _ ← need (judged j.bounds (near (seen f p))) TooFar line
  _ ← need (judged j.bounds (in_range f (seen f p))) OutOfRange line
  enter j line (hit_of tool g.state (seen f p)) (with_state g (moved_to g.state p))

-- A position block, X or Y with or without T, punches. T chooses the tool first.
unfoldable pub position : Judging → Frame → ℕ → Axes → Option ℕ → Progress → Out (Made Progress)
unfolding punch
position j f line a t g = punch j f line (target f g.state a) (with_state g (dropping (choosing g.state t)))

-- With G70 it moves only: no hit, so no tool is needed; its end is judged by 15 and 16 where it is seen after all mirrors.
unfoldable pub move : Judging → Frame → ℕ → Axes → Option ℕ → Progress → Out (Made Progress)
unfolding near covers seen
move j f line a t g = do
  _ ← need (judged j.bounds (near (seen f (target f g.state a)))) TooFar line
  _ ← need (judged j.bounds (in_range f (seen f (target f g.state a)))) OutOfRange line
  no_entry (with_state g (moved_to (dropping (choosing g.state t)) (target f g.state a)))

-- G72 sets the waiting pattern origin by the same rules, an omitted axis being the current point's; the current point stays.
-- The origin is neither a hit nor the end of a move, so 15 judges it as written, in a mirrored macro too.
unfoldable pub set_pattern_origin : Judging → Frame → ℕ → Axes → Progress → Out (Made Progress)
unfolding near
set_pattern_origin j f line a g = do
  _ ← need (judged j.bounds (near (target f g.state a))) TooFar line
  no_entry (with_state g (waiting_for g.state (Some (target f g.state a))))

-- M00 makes a stop, M01 an optional one: no tool is needed, no position is judged, and nothing of the state changes.
abbrev pub stop : Judging → ℕ → Bool → Progress → Out (Made Progress)
stop j line optional g = enter j line (Entry.Stop optional) g
