-- Laws of `Carried`: what a function hands back, told outright, against what the definitions make.
use Rattle.std.specs.Prelude.{Ok, Err}
use mathlib.Core.Path.{◌≡◌}
use Prim.Native.Nat.{◌+◌, ◌≤◌}
use lib.ListN.{length}
use Rattle.aries.specs.declared.refusal.Refused.{Refused}
use Rattle.aries.specs.declared.state.Frame.{Frame}
use Rattle.aries.specs.declared.state.Progress.{Progress}
use Rattle.aries.specs.Outcome.{Out}
use Rattle.aries.specs.Entries.{Made, no_entry}
use Rattle.aries.specs.Judging.{Judging, limits}
use Rattle.aries.specs.Runs.{Lent, over, Carried}
use Rattle.aries.proofs.Runs.{ran-refused, ran-made, ran_no_entry}

module _ (f : Frame) (what : Judging → Progress → Out (Made Progress)) where
  -- a refusal on both sides
  pub carried-refused :
      {r : Out Progress} {g : Progress} {before after : Lent} {e : Refused} → r ≡ Err e
      → what (limits f.job) g ≡ Err e → Carried r f before after g what
  carried-refused e o = rw (e, o) ran-refused

  -- no entry is made
  pub carried_no_entry :
      {r : Out Progress} {g left : Progress} {l : Lent} → r ≡ Ok left
      → left.entries ≡ g.entries → what (limits f.job) g ≡ no_entry left → Carried r f l l g what
  carried_no_entry e h o = rw (e, o, ← h) ran_no_entry

  -- entries and a progress that are made outright
  pub carried-made :
      {r : Out Progress} {m : Made Progress} {g : Progress} {before after : Lent} → r ≡ Ok m.after
      → what (limits f.job) g ≡ Ok m → after ≡ over before g.entries m.entries → m.after.entries ≡ g.entries + length m.entries
      → (g.entries ≤ f.job.places → m.after.entries ≤ f.job.places) → Carried r f before after g what
  carried-made e o written counted fitted = rw (e, o) (ran-made written counted fitted)
