-- The lines of a text from a place on, in turns: where they lie, and what a turn leaves of them.
use Rattle.std.specs.Prelude.{◌≡◌, List, ℕ, ◌+◌, ◌<◌, ◌≤◌, length, Ok, Err, IfOk}
use Rattle.aries.specs.declared.block.Block.{Block}
use Rattle.aries.specs.declared.location.Location.{Location}
use Rattle.aries.specs.declared.setup.Program.{Program}
use Rattle.aries.specs.Outcome.{Out}
use Rattle.aries.specs.Judging.{limits}
use Rattle.aries.specs.Runs.{Lent, entries_of_program, Ran}
use Rattle.aries.specs.Steady.{GivenNear}
use Rattle.turns.specs.Turns.{Turn, carried, lines_from, left_of, place_of, Near, TurnNear}

-- ---- Where they lie

-- a place within a text of a length that is allowed, and a number that its line may have
pub record InText (t : List ℕ) (from : Location) : Type 0 where
  pub short : length t ≤ 60000
  pub inside : from.offset < length t
  pub numbered : from.line ≤ from.offset + 1

-- a place further on
pub record Beyond (t : List ℕ) (from place : Location) : Type 0 where
  pub further : from.offset < place.offset
  pub inside : place.offset ≤ length t + 1
  pub numbered : place.line ≤ place.offset + 1

-- ---- Contracts

-- a turn: whoever carries out what is left has carried out the whole
pub record Leads (r : Turn) (t : List ℕ) (from : Location) (p : Program) (before after : Lent) : Type 0 where
  pub leads :
      (result : Out Program) (last : Lent)
      → Ran entries_of_program p.setup.job result after last r.program.progress.entries (left_of (limits p.setup.job) t r.next r.program)
      → Ran entries_of_program p.setup.job result before last p.progress.entries (lines_from (limits p.setup.job) t from p)
  pub job : r.program.setup.job ≡ p.setup.job
  pub comes : Beyond t from (place_of r.next)
  pub near : Near p → TurnNear r

-- Lines from a place on: a turn that leads on from there, or their refusal.
abbrev pub Turns : Out Turn → List ℕ → Location → Program → Lent → Lent → Type 0
Turns (Ok r) t from p before after = Leads r t from p before after
Turns (Err e) t from p before after = lines_from (limits p.setup.job) t from p ≡ Err e

-- what a block leaves that runs stored bodies or stores one: the setup as it was, and letters given that are no longer than words are
pub record Keeps (p q : Program) : Type 0 where
  pub setup : q.setup ≡ p.setup
  pub given : GivenNear q.progress.state

-- Such a block, which has begun and is in its place, in a line that ends at a place, carried out on a program.
pub record Carries (out : Out Program) (t : List ℕ) (end : Location) (b : Block) (p : Program) (before after : Lent) : Type 0 where
  pub runs : Ran entries_of_program p.setup.job out before after p.progress.entries (carried (limits p.setup.job) t end b p)
  pub keeps : IfOk out (Keeps p)
