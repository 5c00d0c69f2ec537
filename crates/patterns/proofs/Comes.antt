-- Laws of a series of hits: what holds before each hit, at the start, after a hit, at a refusal and at the end. Each loop over
-- hits has it as its invariant.
use Rattle.std.specs.Prelude.{Result, Ok, Err}
use mathlib.Core.Path.{◌≡◌, refl, ap}
use Prim.Native.Nat.{ℕ, suc, ◌+◌, ◌-◌, ◌≤◌, ◌<◌}
use native.Mathlib.Nat.{sub-zero}
use native.Mathlib.Omega.{arith}
use Rattle.aries.specs.declared.point.Point.{Point}
use Rattle.aries.specs.declared.block.Pattern.{Pattern}
use Rattle.aries.specs.declared.block.Pattern.TheVariants.{Line, Arc, Circle, Grid, Shear}
use Rattle.aries.specs.declared.refusal.Refusal.{Refusal}
use Rattle.aries.specs.declared.state.Progress.{Progress}
use Rattle.press.specs.declared.hits.Tooling.{Tooling}
use Rattle.patterns.specs.declared.series.Series.{Series}
use Rattle.patterns.specs.declared.series.Reached.{Reached}
use Rattle.aries.specs.Entries.{Made, and_then}
use Rattle.aries.specs.Outcome.{Out, in_line}
use Rattle.aries.specs.Judging.{limits}
use Rattle.aries.specs.Moves.{◌⊕◌, punch}
use Rattle.aries.specs.Patterns.{hit_offset, hit_count, punches, ending}
use Rattle.aries.specs.Runs.{Lent, entries_made}
use Rattle.aries.proofs.Runs.{mapped, ran-map, Leads, leads-start, leads_as, leads_on, leads_out, leads_end}
use Rattle.patterns.specs.Series.{begun, come, come_out, Comes, hits, series}

-- the end of a pattern makes no entry
ending-entries : (p : Pattern) (start : Point) (g : Progress) → (ending p start g).entries ≡ g.entries
ending-entries (Line pitch angle count) start g = refl
ending-entries (Arc radius angle step count) start g = refl
ending-entries (Circle radius angle clockwise count) start g = refl
ending-entries (Grid vertical pitch steps) start g = refl
ending-entries (Shear angle lengths) start g = refl

module _ (s : Series) (p : Pattern) (count : ℕ) where
  -- so many hits from hit k on, at a line
  abbrev left : ℕ → ℕ → ℕ → Progress → Out (Made Progress)
  left line n k g = punches (limits s.frame.job) s.frame line p s.start n k g

  abbrev hit_at : Point → ℕ → Progress → Out (Made Progress)
  hit_at place line g = punch (limits s.frame.job) s.frame line place g

  -- whoever makes the hits from hit k on from here has made all
  pub record UnderWay (before now : Lent) (made : Reached) (k : ℕ) : Type 0 where
    pub leads : (line : ℕ) (g : Progress)
        → Leads entries_made s.frame.job now made.entries (left line (count - k) k (come g s.tooling made)) before s.entries (hits s p count line (come g s.tooling (begun s)))

  -- at the start
  pub under_start : {before : Lent} → UnderWay before before (begun s) 0
  under_start =
      record { leads = λ line g. leads-start (ap (λ (n : ℕ). left line n 0 (come g s.tooling (begun s))) (sub-zero count)) }

  -- hit k, and then what is left
  turn : (k : ℕ) (place : Point) → k < count → place ≡ s.start ⊕ hit_offset p k → (line : ℕ) (g : Progress)
      → left line (count - k) k g ≡ and_then (hit_at place line g) (left line (count - (k + 1)) (k + 1))
  unfolding punches
  turn k place more is line g =
      let e : count - k ≡ suc (count - (k + 1)) = omega arith in
      let f : suc k ≡ k + 1 = omega arith in
      rw (e, is) (ap (λ (n : ℕ). and_then (hit_at (s.start ⊕ hit_offset p k) line g) (left line (count - (k + 1)) n)) f)

  module _ {before now next : Lent} {made : Reached} {k : ℕ} {place : Point} (under : UnderWay before now made k) (more : k < count) (is : place ≡ s.start ⊕ hit_offset p k) where
    -- a hit that is made
    pub under_next : {r : Reached} → Comes (Ok r) s made now next (hit_at place) → UnderWay before next r (k + 1)
    under_next comes =
        record {
          leads = λ line g.
              leads_on (hit_at place line (come g s.tooling made)) (left line (count - (k + 1)) (k + 1)) (comes line g)
              (leads_as (turn k place more is line (come g s.tooling made)) (under.leads line g));
        }

    -- and one that is refused
    pub hits_refused : {e : Refusal} → Comes (Err e) s made now next (hit_at place) → Comes (Err e) s (begun s) before next (hits s p count)
    hits_refused comes line g =
        leads_out (hit_at place line (come g s.tooling made)) (left line (count - (k + 1)) (k + 1)) (comes line g)
        (leads_as (turn k place more is line (come g s.tooling made)) (under.leads line g))

    -- the whole series is refused then
    pub under_refused : {e : Refusal} → Comes (Err e) s made now next (hit_at place) → count ≡ hit_count p → Comes (Err e) s (begun s) before next (series s p)
    under_refused comes same line g =
        rw (← same) (ran-map (ending p s.start) (ending-entries p s.start) (hits s p count line (come g s.tooling (begun s))) (hits_refused comes line g))

  -- all hits are made
  pub hits_end : {before now : Lent} {made : Reached} {k : ℕ} → UnderWay before now made k → count ≤ k → Comes (Ok made) s (begun s) before now (hits s p count)
  unfolding punches
  hits_end {k = k} under past line g =
      let e : count - k ≡ 0 = omega arith in
      leads_end (rw e at (under.leads line g))

  -- at the end
  pub under_end :
      {before now : Lent} {made : Reached} {k : ℕ} (r : Reached) → UnderWay before now made k → count ≤ k → count ≡ hit_count p
      → ((g : Progress) → come g s.tooling r ≡ ending p s.start (come g s.tooling made)) → Comes (Ok r) s (begun s) before now (series s p)
  under_end r under past same ends line g =
      rw (ends g, ← same)
      (ran-map (ending p s.start) (ending-entries p s.start) (hits s p count line (come g s.tooling (begun s))) (hits_end under past line g))

-- ---- The end of a pattern

-- back at the start, if no hit was refused
abbrev pub at_start : Point → Result Reached Refusal → Result Reached Refusal
at_start start (Ok r) = Ok (record { current = start; entries = r.entries })
at_start start (Err e) = Err e

-- how far a pattern has come then
abbrev pub ended : Pattern → Point → Result Reached Refusal → Result Reached Refusal
ended (Line pitch angle count) start r = r
ended (Arc radius angle step count) start r = r
ended (Circle radius angle clockwise count) start r = at_start start r
ended (Grid vertical pitch steps) start r = r
ended (Shear angle lengths) start r = at_start start r

ended_come : (p : Pattern) (start : Point) (r : Result Reached Refusal) (line : ℕ) (g : Progress) (tooling : Tooling)
    → mapped (ending p start) (come_out g tooling (in_line line r)) ≡ come_out g tooling (in_line line (ended p start r))
ended_come (Line pitch angle count) start (Ok r) line g tooling = refl
ended_come (Line pitch angle count) start (Err e) line g tooling = refl
ended_come (Arc radius angle step count) start (Ok r) line g tooling = refl
ended_come (Arc radius angle step count) start (Err e) line g tooling = refl
ended_come (Circle radius angle clockwise count) start (Ok r) line g tooling = refl
ended_come (Circle radius angle clockwise count) start (Err e) line g tooling = refl
ended_come (Grid vertical pitch steps) start (Ok r) line g tooling = refl
ended_come (Grid vertical pitch steps) start (Err e) line g tooling = refl
ended_come (Shear angle lengths) start (Ok r) line g tooling = refl
ended_come (Shear angle lengths) start (Err e) line g tooling = refl

-- all hits of a pattern, and its end
pub series_ended : (s : Series) (p : Pattern) (r : Result Reached Refusal) {count : ℕ} {before after : Lent} → count ≡ hit_count p
    → Comes r s (begun s) before after (hits s p count) → Comes (ended p s.start r) s (begun s) before after (series s p)
series_ended s p r same comes line g =
    rw (← same, ← ended_come p s.start r line g s.tooling)
    (ran-map (ending p s.start) (ending-entries p s.start) (hits s p _ line (come g s.tooling (begun s))) (comes line g))
