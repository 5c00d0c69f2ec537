-- The hits of a direct block: of one tool where its entries are hits, and else there are none. So they are counted in one go.
use Rattle.std.specs.Prelude.{Err, Ok, Option}
use mathlib.Core.Path.{◌≡◌, refl, sym, ap, ◌∙◌}
use mathlib.Core.Bool.{Bool, true, false}
use mathlib.Core.List.{List, []}
use Prim.Native.Nat.{ℕ}
use lib.IntN.{ℤ}
use Rattle.aries.specs.declared.refusal.Refusal.TheVariants.{TooFar, OutOfRange, ListFull}
use Rattle.aries.specs.declared.block.Direct.{Direct}
use Rattle.aries.specs.declared.block.Direct.TheVariants.{Lone, Punch, Move, PatternOrigin, RunPattern, Recall, Nibble, Idle, Stop}
use Rattle.aries.specs.declared.job.Job.{Job}
use Rattle.aries.specs.declared.state.Frame.{Frame}
use Rattle.aries.specs.declared.state.Progress.{Progress}
use Rattle.aries.specs.declared.refusal.Refusal.{Refusal}
use Rattle.aries.specs.Outcome.{Out, ◌>>=◌, need}
use Rattle.aries.specs.Entries.{Made, hits_in}
use Rattle.aries.specs.Judging.{Judging, judged, near, room}
use Rattle.aries.specs.Machine.{in_range}
use Rattle.aries.specs.Mirrors.{seen}
use Rattle.aries.specs.Macros.{carry_direct}
use Rattle.aries.specs.Moves.{target, move, set_pattern_origin}
use Rattle.aries.specs.Runs.{leaving, lent, lent_both, Ran, entries_made}
use Rattle.aries.specs.Tallying.{with_chosen}
use Rattle.aries.proofs.Outcomes.{err≢ok, ok_injective}
use Rattle.aries.proofs.OneTool.{OneTool, one-position, one-run, one-recall, accepted_hits}
use Rattle.aries.proofs.Runs.{ran-refused, refused_out}
use Rattle.aries.proofs.Tallied.{ran_no_hits}
use Rattle.stretches.specs.Hits.{makes_hits}

-- what is accepted has no hit
record Hitless (out : Out (Made Progress)) : Type 0 where
  none : (m : Made Progress) → out ≡ Ok m → hits_in m.entries ≡ []

hitless-ok : {m : Made Progress} → hits_in m.entries ≡ [] → Hitless (Ok m)
hitless-ok {m} h = record { none = λ n e. ap (λ (x : Made Progress). hits_in x.entries) (sym (ok_injective m n e)) ∙ h }

hitless-need : {rest : Out (Made Progress)} (b : Bool) (refusal : Refusal) (line : ℕ) → Hitless rest → Hitless (◌>>=◌ (need b refusal line) (λ u. rest))
hitless-need true refusal line h = h
hitless-need false refusal line h = record { none = λ m e. absurd (err≢ok (record { refusal = refusal; line = line }) m e) }

-- its hits have one tool, or there are none
abbrev Counting : Bool → Out (Made Progress) → Type 0
Counting true out = (tool : Option ℕ) × OneTool tool out
Counting false out = Hitless out

module _ (j : Judging) (f : Frame) (line : ℕ) (g : Progress) where
  counting : (d : Direct) → Counting (makes_hits d) (carry_direct j f line d g)
  unfolding carry_direct move set_pattern_origin hits_in
  counting (RunPattern p tool memory) = (_, one-run j f line p tool memory g)
  counting (Recall n) = (_, one-recall j f line n g)
  counting (Punch a tool) = (_, one-position j f line a tool g)
  counting Lone = hitless-ok refl
  counting (Move a tool) =
      hitless-need (judged j.bounds (near (seen f (target f g.state a)))) TooFar line
      (hitless-need (judged j.bounds (in_range f (seen f (target f g.state a)))) OutOfRange line (hitless-ok refl))
  counting (PatternOrigin a) = hitless-need (judged j.bounds (near (target f g.state a))) TooFar line (hitless-ok refl)
  counting (Nibble on) = hitless-ok refl
  counting Idle = hitless-ok refl
  counting (Stop optional) = hitless-need (room j.places g.entries) ListFull line (hitless-ok refl)

  -- a block whose entries are hits, with them counted by the tool that it leaves
  module _ {job : Job} {l l' : List ℤ} {k : ℕ} (t : List ℕ) (d : Direct) where
    pub hits_accepted :
        {left : Progress} → Ran entries_made job (Ok left) (lent l) (lent l') k (carry_direct j f line d g) → makes_hits d ≡ true
        → Ran entries_made job (Ok left) (lent_both l t) (lent_both l' (with_chosen t left.state.tool k left.entries)) k (carry_direct j f line d g)
    hits_accepted ran e = let c : Counting true (carry_direct j f line d g) = rw e at (counting d) in accepted_hits t c.1 ran

    -- whether it is accepted or refused
    pub hits_counted :
        {A : Type 0} (result : Out A) (left : Progress) → Ran entries_made job (leaving result left) (lent l) (lent l') k (carry_direct j f line d g) → makes_hits d ≡ true
        → Ran entries_made job (leaving result left) (lent_both l t) (lent_both l' (with_chosen t left.state.tool k left.entries)) k (carry_direct j f line d g)
    hits_counted (Ok a) left ran e = hits_accepted ran e
    hits_counted (Err r) left ran e = rw (refused_out r (carry_direct j f line d g) ran.same) ran-refused

  module _
      {job : Job} {result : Out Progress} {l l' : List ℤ} {k : ℕ} (t : List ℕ) (d : Direct)
      (ran : Ran entries_made job result (lent l) (lent l') k (carry_direct j f line d g)) where
    -- any other, with nothing counted
    pub nothing_counted :
        makes_hits d ≡ false → Ran entries_made job result (lent_both l t) (lent_both l' t) k (carry_direct j f line d g)
    nothing_counted e = let c : Counting false (carry_direct j f line d g) = rw e at (counting d) in ran_no_hits ran t c.none
