-- Laws of `Advanced`: what a function hands back, told outright, against what the definitions make of a line.
use Rattle.std.specs.Prelude.{Ok, Err}
use mathlib.Core.Path.{◌≡◌, refl}
use Prim.Native.Nat.{ℕ}
use Rattle.aries.specs.declared.refusal.Refused.{Refused}
use Rattle.aries.specs.declared.setup.Program.{Program}
use Rattle.aries.specs.declared.state.Progress.{Progress}
use Rattle.aries.specs.Outcome.{Out}
use Rattle.aries.specs.Entries.{Made, no_entry, map_after}
use Rattle.aries.specs.Judging.{Judging, limits}
use Rattle.aries.specs.Program.{with_progress}
use Rattle.aries.specs.Runs.{Lent, entries_made, entries_of_program, Ran, Advanced}
use Rattle.aries.proofs.Runs.{ran-refused, ran_no_entry, ran-map, mapped}

module _ (p : Program) (what : Judging → Program → Out (Made Program)) where
  -- a refusal on both sides
  pub advanced_refused :
      {r : Out Program} {before after : Lent} {e : Refused} → r ≡ Err e
      → what (limits p.setup.job) p ≡ Err e → Advanced r before after p what
  advanced_refused e o = rw (e, o) ran-refused

  -- no entry is made
  pub advanced_no_entry :
      {r : Out Program} {left : Program} {l : Lent} → r ≡ Ok left → left.progress.entries ≡ p.progress.entries
      → what (limits p.setup.job) p ≡ no_entry left → Advanced r l l p what
  advanced_no_entry e h o = rw (e, o, ← h) ran_no_entry

-- what is carried out, and its progress goes into a program whose setup and macros it leaves alone
pub advanced_by :
    {r : Out Program} {o : Out Progress} {before after : Lent} {k : ℕ} (p : Program) (out : Out (Made Progress))
    → r ≡ mapped (with_progress p) o
    → Ran entries_made p.setup.job o before after k out
    → Ran entries_of_program p.setup.job r before after k (map_after (with_progress p) out)
advanced_by p out e h = rw e (ran-map (with_progress p) (λ g. refl) out h)
