-- A stretch, and then what follows it, up to the first refusal.
use Rattle.std.specs.Prelude.{Err, Ok}
use mathlib.Core.Path.{◌≡◌, refl, sym, ap}
use mathlib.Core.List.{List, ◌++◌, append_assoc}
use Prim.Native.Nat.{ℕ}
use Rattle.aries.specs.declared.entry.Entry.{Entry}
use Rattle.aries.specs.declared.job.Job.{Job}
use Rattle.aries.specs.declared.refusal.Refused.{Refused}
use Rattle.aries.specs.declared.state.Progress.{Progress}
use Rattle.aries.specs.Outcome.{Out}
use Rattle.aries.specs.Entries.{Made, adding, and_then, map_after}
use Rattle.aries.specs.Runs.{Lent, Ran, entries_made}
use Rattle.aries.proofs.Runs.{mapped, ran_as, ran-refused, ran_then, ran-map, refused_out, Leads}
use Rattle.stretches.specs.Stretches.{Stretch, going, entries_of_stretch}

abbrev pub thence : Out (Made Stretch) → (Stretch → Out (Made Progress)) → Out (Made Progress)
thence (Err e) next = Err e
thence (Ok m) next = adding m.entries (next m.after)

-- entries, and then a stretch and what follows it
pub adding_thence :
    (es : List Entry) (x : Out (Made Stretch)) (next : Stretch → Out (Made Progress)) → adding es (thence x next) ≡ thence (adding es x) next
adding_thence es (Err e) next = refl
adding_thence es (Ok m) next = go (next m.after)
  where
    go : (y : Out (Made Progress)) → adding es (adding m.entries y) ≡ adding (es ++ m.entries) y
    go (Err e) = refl
    go (Ok n) = ap (λ (l : List Entry). Ok (record { entries = l; after = n.after })) (sym (append_assoc es m.entries n.entries))

-- it is one thing after the other, seen as the progress that is left
abbrev progress_of : Stretch → Progress
progress_of s = s.progress

seen_so : (x : Out (Made Stretch)) (next : Stretch → Out (Made Progress)) → map_after progress_of (and_then x (λ s. map_after going (next s))) ≡ thence x next
seen_so (Err e) next = refl
seen_so (Ok m) next = go (next m.after)
  where
    go : (y : Out (Made Progress)) → map_after progress_of (adding m.entries (map_after going y)) ≡ adding m.entries y
    go (Err e) = refl
    go (Ok n) = refl

same_left : (r : Out Progress) → mapped progress_of (mapped going r) ≡ r
same_left (Err e) = refl
same_left (Ok p) = refl

module _ {job : Job} (x : Out (Made Stretch)) (next : Stretch → Out (Made Progress)) where
  -- a stretch that is refused ends it
  pub stretch_refused :
      {before after before' after' : Lent} {k k' : ℕ} {e : Refused} → Ran entries_of_stretch job (Err e) before after k x
      → Ran entries_made job (Err e) before' after' k' (thence x next)
  stretch_refused {e = e} st = rw (refused_out e x st.same) ran-refused

  -- one that passed leads on to what follows
  pub stretch_then :
      {s : Stretch} {result : Out Progress} {before mid after : Lent} {k : ℕ} → Ran entries_of_stretch job (Ok s) before mid k x
      → Ran entries_made job result mid after s.progress.entries (next s) → Ran entries_made job result before after k (thence x next)
  stretch_then {s} {result} st ran =
      rw (← seen_so x next)
      (ran_as (same_left result)
      (ran-map progress_of (λ p. refl) _
      (ran_then x (λ t. map_after going (next t)) st (ran-map going (λ p. refl) (next s) ran))))

  pub leads_behind :
      {s : Stretch} {l mid l₀ : Lent} {k k₀ : ℕ} {whole : Out (Made Progress)} → Ran entries_of_stretch job (Ok s) l mid k x
      → Leads entries_made job l k (thence x next) l₀ k₀ whole → Leads entries_made job mid s.progress.entries (next s) l₀ k₀ whole
  leads_behind st lead result after ran = lead result after (stretch_then st ran)
