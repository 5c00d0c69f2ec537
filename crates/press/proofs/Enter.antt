-- Laws of an entry: what has been carried out with it, by whether it has a place.
use Rattle.std.specs.Prelude.{Ok, Err, Result}
use mathlib.Core.Path.{◌≡◌, refl}
use mathlib.Core.Bool.{Bool, true, false, cond}
use Prim.Native.Nat.{ℕ, ◌<◌}
use native.Mathlib.Omega.{arith}
use borrow.Author.Tests.{ltb-true}
use Rattle.aries.specs.declared.entry.Entry.{Entry}
use Rattle.aries.specs.declared.job.Job.{Job}
use Rattle.aries.specs.declared.refusal.Refusal.{Refusal}
use Rattle.aries.specs.declared.refusal.Refusal.TheVariants.{ListFull}
use Rattle.aries.specs.declared.state.Progress.{Progress}
use Rattle.aries.specs.Outcome.{in_line}
use Rattle.aries.specs.Judging.{limits}
use Rattle.aries.specs.Moves.{entered, enter}
use Rattle.aries.specs.Runs.{Lent, over, entries_made, Ran}
use Rattle.aries.proofs.Runs.{mapped, ran-refused, ran-made}
use Rattle.press.specs.Entries.{has_place, place_for, list_with}

-- an entry that is made has a place
made_inside : (t : Bool) {u : Unit {0}} → ◌≡◌ {A = Result (Unit {0}) Refusal} (Ok u) (cond t (Ok tt) (Err ListFull)) → t ≡ true
made_inside true e = refl
made_inside false e = absurd (cc)

-- and one that is refused has none
refused_full : (t : Bool) {r : Refusal} → ◌≡◌ {A = Result (Unit {0}) Refusal} (Err r) (cond t (Ok tt) (Err ListFull)) → (t ≡ false) × (r ≡ ListFull)
refused_full true e = absurd (cc)
refused_full false e = (refl, cc)

-- a place that is left comes before the last of them
pub place_below : (job : Job) (entries : ℕ) {u : Unit {0}} → Ok u ≡ place_for job entries → entries < job.places
place_below job entries e = ltb-true entries job.places (made_inside (has_place job entries) e)

-- what has been carried out, where the list has the entry that is made
pub enter_ran :
    (job : Job) (line : ℕ) (e : Entry) (g : Progress) {before after : Lent} (r : Result (Unit {0}) Refusal)
    → r ≡ place_for job g.entries → after ≡ list_with r before g.entries e
    → Ran entries_made job (mapped (λ u. (entered e g).after) (in_line line r)) before after g.entries (enter (limits job) line e g)
unfolding over
enter_ran job line e g (Ok u) is written =
    rw (made_inside (has_place job g.entries) is)
    (ran-made {m = entered e g} written refl (λ _. let i = place_below job g.entries is in omega arith))
enter_ran job line e g (Err refusal) is written =
    let full = refused_full (has_place job g.entries) is in rw (full.0, full.1) ran-refused
