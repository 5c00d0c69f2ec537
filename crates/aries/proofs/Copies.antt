-- All copies of a run, one after the other: their entries, and when none of them is refused.
use Rattle.std.specs.Prelude.{Ok}
use mathlib.Core.Path.{◌≡◌, refl, sym, ap, ap₂, ◌∙◌, subst}
use mathlib.Core.Bool.{Bool, true, false}
use mathlib.Core.List.{[], ◌++◌, map}
use Prim.Native.Nat.{ℕ, zero, suc, ◌+◌, ◌<◌, ◌≤◌}
use native.Mathlib.Omega.{arith}
use borrow.Author.Tests.{ltb-true, ltb-false}
use lib.Dec.{ltb}
use Rattle.aries.specs.declared.refusal.Refusal.TheVariants.{TooFar}
use Rattle.aries.specs.declared.point.Point.{Point}
use Rattle.aries.specs.declared.state.Progress.{Progress}
use Rattle.aries.specs.Outcome.{Out}
use Rattle.aries.specs.Entries.{Made}
use Rattle.aries.specs.Judging.{Judging, near, limits}
use Rattle.aries.specs.Layouts.{copy, copy_all}
use Rattle.aries.specs.Setup.{ordinary_frame}
use Rattle.aries.specs.CopyRuns.{Circumstances, called, Accepted, entries_of, moved_by, joined, SamePart}
use Rattle.aries.proofs.Outcomes.{ok_injective, need_accepted, Both, then_accepted, accepted_then}
use Rattle.aries.proofs.Counts.{Counts, counts_of, nothing, ◌⊞◌, times, times_suc, Up, up_unique, Fit, fit_nothing, fit_front, fit_back, fit_joined}
use Rattle.aries.proofs.Follows.{Motion, translation, Followed, follows_accepted, follows_fitting}
use Rattle.aries.proofs.BodyRuns.{unlimited}
use Rattle.aries.proofs.Parts.{part_at, own_from, same-part, part_own, part-bounds}

-- what a run judges
abbrev pub judging : Circumstances → Judging
judging c = limits c.setup.job

-- one copy of its part, and copies m, m + 1, .., so many of them
abbrev pub copy_to : Circumstances → Point → Progress → Out (Made Progress)
copy_to c p g = copy (judging c) (called (judging c) c (c.bodies c.part)) (ordinary_frame c.setup) c.line c.before.state p g

abbrev pub copies : Circumstances → (ℕ → Point) → ℕ → ℕ → Progress → Out (Made Progress)
copies c place k m g =
    copy_all (judging c) (called (judging c) c (c.bodies c.part)) (ordinary_frame c.setup) c.line c.before.state place k m g

-- ---- What the own run tells

module _ (base : Circumstances) where
  -- the part at a place by bounds alone, from nothing
  abbrev pub by_bounds : Point → Out (Made Progress)
  by_bounds p = part_at base (unlimited true) p nothing

  -- it passes by bounds alone: its place, and all that it carries out there
  pub record Passes (p : Point) : Type 0 where
    pub is_near : near p ≡ true
    pub is_accepted : Accepted (by_bounds p)

  -- the own run is accepted, and how far its counts go up
  pub record Own (n' : Counts) : Type 0 where
    pub result : Made Progress
    pub by : Counts
    pub result_is : own_from base n' ≡ Ok result
    pub up : Up n' (counts_of result.after) by

-- ---- The copies of a run beside the own run of one with the same part

module _ (c base : Circumstances) (same : SamePart c base) where
  -- ---- One copy

  -- one that was accepted, beside the own run from other counts
  pub record Copied (p : Point) (n n' : Counts) (m : Made Progress) : Type 0 where
    pub own : Followed (judging c) (translation p) n n' m (own_from base n')
    pub passes : Passes base p

  copy_accepted : (p : Point) (g : Progress) (n' : Counts) (m : Made Progress) → copy_to c p g ≡ Ok m → Copied p (counts_of g) n' m
  unfolding copy
  copy_accepted p g n' m e =
      let n = counts_of g in
      let q = need_accepted (near p) TooFar c.line (part_at c (judging c) p n) m e in
      let b = follows_accepted (part_at c (judging c) p n) (by_bounds base p) m q.1 (part-bounds c base same (judging c) p n nothing) in
      record {
        own = follows_accepted (part_at c (judging c) p n) (own_from base n') m q.1 (part_own c base same (judging c) p n n');
        passes = record { is_near = q.0; is_accepted = (b.other, b.other_is) };
      }

  -- ---- The entries of all copies

  module _ (place : ℕ → Point) where
    -- the first copy and the others
    parted :
        (k m : ℕ) (g : Progress) (r : Made Progress) → copies c place (suc k) m g ≡ Ok r → Both (copy_to c (place m) g) (copies c place k (suc m)) r
    unfolding copy_all
    parted k m g r e = then_accepted (copy_to c (place m) g) (copies c place k (suc m)) r e

    -- for each m in turn, the own entries moved to its place
    pub copies-entries :
        (n' : Counts) (k m : ℕ) (g : Progress) (r : Made Progress) → copies c place k m g ≡ Ok r
        → r.entries ≡ joined (λ i. map (moved_by (place i)) (entries_of (own_from base n'))) k m
    unfolding copy_all joined
    copies-entries n' zero m g r e = sym (ap entries_of e)
    copies-entries n' (suc k) m g r e =
        let t = parted k m g r e in
        let o = (copy_accepted (place m) g n' t.first t.first_is).own in
        t.entries_are
        ∙ ap₂ ◌++◌ (o.together.moved ∙ ap (λ (y : Out (Made Progress)). map (moved_by (place m)) (entries_of y)) (sym o.other_is))
        (copies-entries n' k (suc m) t.first.after t.second t.second_is)

    -- where there are copies and they are accepted, so is the own run
    pub copies_own : (n' : Counts) (k m : ℕ) (g : Progress) (r : Made Progress) → 0 < k → copies c place k m g ≡ Ok r → Own base n'
    copies_own n' zero m g r p e = absurd (omega arith)
    copies_own n' (suc k) m g r p e =
        let t = parted k m g r e in
        let o = (copy_accepted (place m) g n' t.first t.first_is).own in
        record { result = o.other; by = o.by; result_is = o.other_is; up = o.together.up' }

  -- ---- When they are accepted

  module _ (n' : Counts) (w : Own base n') where
    -- whatever goes along with the own run counts as many
    counts_as_own : {j : Judging} {v : Motion} {n : Counts} {m : Made Progress} (o : Followed j v n n' m (own_from base n')) → o.by ≡ w.by
    counts_as_own o =
        up_unique o.together.up'
        (subst (λ (m : Made Progress). Up n' (counts_of m.after) w.by) (ok_injective _ _ (sym w.result_is ∙ o.other_is)) w.up)

    -- every copy passes by bounds, and what all of them count fits
    pub record AllPass (place : ℕ → Point) (k m : ℕ) (n : Counts) : Type 0 where
      pub passing : (i : ℕ) → m ≤ i → i < m + k → Passes base (place i)
      pub fit : Fit (judging c) n (times k w.by)

    -- an accepted copy goes up as the own run does, which fits
    copy-fits : {p : Point} {n : Counts} {m : Made Progress} → Copied p n n' m → Up n (counts_of m.after) w.by × Fit (judging c) n w.by
    copy-fits {n = n} {m = m} x =
        let e = counts_as_own x.own in
        (subst (Up n (counts_of m.after)) e x.own.together.up, subst (Fit (judging c) n) e x.own.together.fit)

    pub copies_accepted :
        (place : ℕ → Point) (k m : ℕ) (g : Progress) (r : Made Progress) → copies c place k m g ≡ Ok r → AllPass place k m (counts_of g)
    copies_accepted place zero m g r e = record { passing = λ i p q. absurd (omega arith); fit = fit_nothing (omega arith) (omega arith) }
    copies_accepted place (suc k) m g r e =
        let t = parted place k m g r e in
        let x = copy_accepted (place m) g n' t.first t.first_is in
        let u = copy-fits x in
        let y = copies_accepted place k (suc m) t.first.after t.second t.second_is in
        record {
          passing = λ i p q. go x.passes y.passing i p q (ltb m i) refl;
          fit = subst (Fit (judging c) (counts_of g)) (sym (times_suc k w.by)) (fit_joined w.by (times k w.by) u.0 u.1 y.fit);
        }
      where
        go :
            Passes base (place m) → ((i : ℕ) → suc m ≤ i → i < suc m + k → Passes base (place i))
            → (i : ℕ) → m ≤ i → i < m + suc k → (later : Bool) → ltb m i ≡ later → Passes base (place i)
        go x y i p q true e = y i (ltb-true m i e) (omega arith)
        go x y i p q false e =
            let d : m ≡ i = let l : i ≤ m = ltb-false m i e in omega arith in
            subst (λ (i : ℕ). Passes base (place i)) d x

    -- a copy that passes by bounds is accepted where what it counts fits
    copy_fitting : (p : Point) (g : Progress) → Passes base p → Fit (judging c) (counts_of g) w.by → Accepted (copy_to c p g)
    unfolding copy
    copy_fitting p g x f =
        let n = counts_of g in
        let m = x.is_accepted.0 in
        let e = x.is_accepted.1 in
        let o = follows_accepted (by_bounds base p) (own_from base n') m e (part_own base base (same-part base) (unlimited true) p nothing n') in
        rw x.is_near
        (follows_fitting (part_at c (judging c) p n) (by_bounds base p) m e (part-bounds c base same (judging c) p n nothing) tt
        (λ d u. subst (Fit (judging c) n) (sym (counts_as_own o) ∙ up_unique o.together.up u) f))

    pub accepted_copies : (place : ℕ → Point) (k m : ℕ) (g : Progress) → AllPass place k m (counts_of g) → Accepted (copies c place k m g)
    unfolding copy_all
    accepted_copies place zero m g x = (record { entries = []; after = g }, refl)
    accepted_copies place (suc k) m g x =
        let f : Fit (judging c) (counts_of g) (w.by ⊞ times k w.by) = subst (Fit (judging c) (counts_of g)) (times_suc k w.by) x.fit in
        let y = copy_fitting (place m) g (x.passing m (omega arith) (omega arith)) (fit_front w.by (times k w.by) f) in
        let u = copy-fits (copy_accepted (place m) g n' y.0 y.1) in
        let z = accepted_copies place k (suc m) y.0.after
        (record { passing = λ i p q. x.passing i (omega arith) (omega arith); fit = fit_back w.by (times k w.by) u.0 f }) in (
          record { entries = y.0.entries ++ z.0.entries; after = z.0.after },
          accepted_then (copy_to c (place m) g) (copies c place k (suc m)) y.0 z.0 y.1 z.1,
        )
