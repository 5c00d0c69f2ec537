-- What blocks leave that need no stored bodies, and what is left of a text behind them.
use Rattle.std.specs.Prelude.{◌≡◌, true, List, ℕ, ◌+◌, drop, Ok, Err, Option, IfOk}
use Rattle.aries.specs.declared.block.Block.{Block}
use Rattle.aries.specs.declared.block.Layout.{Layout}
use Rattle.aries.specs.declared.block.Outside.TheVariants as Outside
use Rattle.aries.specs.declared.location.Location.{Location}
use Rattle.aries.specs.declared.point.Point.{Point}
use Rattle.aries.specs.declared.refusal.Refusal.TheVariants.{OutOfPlace}
use Rattle.aries.specs.declared.setup.Program.{Program}
use Rattle.aries.specs.declared.setup.Stage.{Stage}
use Rattle.aries.specs.declared.setup.Stage.TheVariants.{Fresh, Running, Storing, Ended}
use Rattle.aries.specs.Outcome.{Out, ◌>>=◌, need}
use Rattle.aries.specs.Text.{lines}
use Rattle.aries.specs.Entries.{Made, and_then}
use Rattle.aries.specs.Judging.{Judging, limits, near}
use Rattle.aries.specs.Program.{in_place, carry_out, settled, run_from}
use Rattle.aries.specs.Setup.{set_origin}
use Rattle.aries.specs.Steady.{GivenNear, CallNear}
use Rattle.turns.specs.declared.turn.Called.{Called}
use Rattle.turns.specs.declared.turn.Called.TheVariants.{Macro, Part}
use Rattle.turns.specs.declared.turn.Next.{Next}
use Rattle.turns.specs.declared.turn.Next.TheVariants.{Line, Run, Open}

-- ---- What is left of a text

-- a program between two blocks, and what comes next
pub record Turn : Type 0 where
  pub program : Program
  pub next : Next

-- what comes next, with what the program is then
abbrev pub left_at : Out Next → Program → Out Turn
left_at (Ok next) p = Ok (record { program = p; next = next })
left_at (Err e) p = Err e

-- a block that has begun and is in its place, in a line that ends at a place
abbrev pub carried : Judging → List ℕ → Location → Block → Program → Out (Made Program)
carried j t end b p = carry_out j t (end.offset + 1) end.line (lines (drop (end.offset + 1) t)) b p

-- a block that has begun, judged by its place
unfoldable pub placed : Judging → List ℕ → Location → Block → Program → Out (Made Program)
unfolding carry_out lines
placed j t end b p = do
  _ ← need (in_place p.stage b) OutOfPlace end.line
  carried j t end b p

-- the lines from a place on; the end of a line is a place between lines, since a blank line stands there
abbrev pub lines_from : Judging → List ℕ → Location → Program → Out (Made Program)
lines_from j t from p = run_from j t from.offset from.line (lines (drop from.offset t)) p

-- the block that runs stored bodies
abbrev pub block_of : Called → Block
block_of (Macro c) = Block.Call c
block_of (Part c) = Block.Outside (Outside.Copy c)

-- what is left, by what comes next
abbrev pub left_of : Judging → List ℕ → Next → Program → Out (Made Program)
left_of j t (Line from) p = lines_from j t from p
left_of j t (Run c end) p = and_then (carried j t end (block_of c) p) (lines_from j t end)
left_of j t (Open n end) p = and_then (carried j t end (Block.Outside (Outside.Open n)) p) (lines_from j t end)

-- what is left after a turn, or its refusal
abbrev pub left_after : Judging → List ℕ → Out Turn → Out (Made Program)
left_after j t out = do
  r ← out
  left_of j t r.next r.program

-- ---- Where it lies

-- where the lines that come next start, or the line of the block ends
abbrev pub place_of : Next → Location
place_of (Line from) = from
place_of (Run c end) = end
place_of (Open n end) = end

-- ---- How far it reaches

-- an origin that is near, and letters given that are no longer than words are
abbrev pub Near : Program → Type 0
Near p = (near p.setup.origin ≡ true) × GivenNear p.progress.state

-- a call in a block, if it is one
abbrev pub CalledNear : Called → Type 0
CalledNear (Macro c) = CallNear c
CalledNear (Part c) = Unit {0}

-- what comes next, if it is a call
abbrev pub NextNear : Next → Type 0
NextNear (Line from) = Unit {0}
NextNear (Run c end) = CalledNear c
NextNear (Open n end) = Unit {0}

-- a turn leaves them so, and what comes next
abbrev pub TurnNear : Turn → Type 0
TurnNear r = Near r.program × NextNear r.next

-- ---- Contracts

-- no block but G92 may come at these stages
abbrev pub Alone : Stage → Type 0
Alone Fresh = Unit {0}
Alone Running = ⊥
Alone Storing = ⊥
Alone Ended = Unit {0}

-- a turn that makes no entry, in a line that ends at a place
pub record Quiet (end : Location) (p : Program) (r : Turn) : Type 0 where
  pub entries : r.program.progress.entries ≡ p.progress.entries
  pub job : r.program.setup.job ≡ p.setup.job
  pub comes : place_of r.next ≡ end
  pub near : Near p → TurnNear r

-- Something that makes no entry, in a line that ends at a place: what is left is the same as before.
pub record Leaves (out : Out Turn) (end : Location) (p : Program) (what : Judging → List ℕ → Out (Made Program)) : Type 0 where
  pub same : (t : List ℕ) → left_after (limits p.setup.job) t out ≡ and_then (what (limits p.setup.job) t) (lines_from (limits p.setup.job) t end)
  pub quiet : IfOk out (Quiet end p)

abbrev pub SetsOrigin : Out Turn → Location → Option Layout → Point → Program → Type 0
SetsOrigin out end sheet offset p = Leaves out end p (λ j t. settled p (set_origin j end.line sheet offset p.setup))

abbrev pub Settles : Out Turn → Location → Block → Program → Type 0
Settles out end b p = Leaves out end p (λ j t. placed j t end b p)
