-- An entry by what it depends on alone: whether it has a place, and the lent list afterwards. `enter` of the definitions is the
-- same with a whole progress (proofs/Enter.antt).
use Rattle.std.specs.Prelude.{Bool, cond, ℕ, Some, Result, Ok, Err}
use Rattle.aries.specs.declared.entry.Entry.{Entry}
use Rattle.aries.specs.declared.job.Job.{Job}
use Rattle.aries.specs.declared.refusal.Refusal.{Refusal}
use Rattle.aries.specs.declared.refusal.Refusal.TheVariants.{ListFull}
use Rattle.aries.specs.Judging.{room}
use Rattle.aries.specs.Runs.{Lent, put}

-- 17: after so many entries the list of a job has a place left
abbrev pub has_place : Job → ℕ → Bool
has_place job entries = room (Some job.places) entries

abbrev pub place_for : Job → ℕ → Result (Unit {0}) Refusal
place_for job entries = cond (has_place job entries) (Ok tt) (Err ListFull)

-- the list with an entry at place k, if it is made
abbrev pub list_with : Result (Unit {0}) Refusal → Lent → ℕ → Entry → Lent
list_with (Ok u) l k e = put l k e
list_with (Err refusal) l k e = l
