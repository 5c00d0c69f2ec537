-- The part of a run, carried out once at a place: it is the own run at (0, 0) moved, where it is accepted, and it is accepted
-- where it is by bounds alone and what it counts fits. The own run may be that of another run of the same part.
use Rattle.std.specs.Prelude.{None, Option, Some}
use mathlib.Core.Path.{◌≡◌, refl, sym, ap, ◌∙◌, subst, subst₂}
use mathlib.Core.Bool.{Bool, true, false}
use Prim.Native.Nat.{ℕ, ◌-◌}
use native.Mathlib.Omega.{arith}
use Rattle.aries.specs.declared.reader.Setting.{Setting}
use Rattle.aries.specs.declared.machine.Machine.{Machine}
use Rattle.aries.specs.declared.point.Point.{Point}
use Rattle.aries.specs.declared.state.State.{State}
use Rattle.aries.specs.declared.state.Progress.{Progress}
use Rattle.aries.specs.Outcome.{Out}
use Rattle.aries.specs.Entries.{Made}
use Rattle.aries.specs.Machine.{in_range}
use Rattle.aries.specs.Judging.{Judging, limits, judged, near, unjudged}
use Rattle.aries.specs.Moves.{zero_point, ◌⊕◌}
use Rattle.aries.specs.Mirrors.{no_mirror}
use Rattle.aries.specs.Macros.{Body, most_calls, run_body}
use Rattle.aries.specs.Layouts.{copy_start}
use Rattle.aries.specs.Setup.{ordinary_frame, frame_at}
use Rattle.aries.specs.CopyRuns.{Circumstances, bytes_of, called, SamePart, AllAlike}
use Rattle.aries.proofs.Points.{zero-⊕, ⊕-zero}
use Rattle.aries.proofs.Counts.{Counts, counts_of, Fit, fits-free}
use Rattle.aries.proofs.Mirrors.{seen_moves}
use Rattle.aries.proofs.Follows.{moved_frame, Motion, translation, progress, Looser, alike, dropped, Follows, refusals}
use Rattle.aries.proofs.BodyRuns.{Bounds, unlimited, run_body_follows}

-- ---- Bounds judged or not

-- whatever is judged, against nothing judged
pub bounds_dropped : (j : Judging) (v : Motion) (places : ℕ) → Bounds ⊥ j false v places
bounds_dropped j v places =
    record {
      nearness = λ p. go (judged j.bounds (near (p ⊕ v.by)));
      seen-near = λ p. go (judged j.bounds (near (v.to p)));
      coverage = λ f m p. go (judged j.bounds (in_range (moved_frame v.by places m f) (v.to p)));
      reach = λ t. go (judged j.bounds t);
    }
  where
    go : (t : Bool) → Looser ⊥ t true
    go true = alike
    go false = dropped (λ i. i)

-- against the same bounds, at the same place
bounds-alike : (j : Judging) (places : ℕ) → Bounds (Unit {0}) j j.bounds (translation zero_point) places
bounds-alike j places =
    record { nearness = λ p. same near p; seen-near = λ p. same near p; coverage = λ f m p. same (in_range f) p; reach = λ t. alike }
  where
    same : (test : Point → Bool) (p : Point) → Looser (Unit {0}) (judged j.bounds (test (p ⊕ zero_point))) (judged j.bounds (test p))
    same test p = subst (λ (q : Point). Looser (Unit {0}) (judged j.bounds (test q)) (judged j.bounds (test p))) (sym (⊕-zero p)) alike

-- ---- A copy at a place

-- the part at a place, from counts
abbrev pub part_at : Circumstances → Judging → Point → Counts → Out (Made Progress)
part_at c j p n = called j c (c.bodies c.part) (frame_at (ordinary_frame c.setup) p) (progress (copy_start c.before.state p) n)

-- the own run, from counts
abbrev pub own_from : Circumstances → Counts → Out (Made Progress)
own_from c n = part_at c unjudged zero_point n

-- a run has the same part as itself
pub same-part : (c : Circumstances) → SamePart c c
same-part c = record { setting = refl; machine = refl; state = refl; bodies = λ n. refl; part = refl }

pub parts-turned : {c d : Circumstances} → SamePart c d → SamePart d c
parts-turned r =
    record {
      setting = sym r.setting;
      machine = sym r.machine;
      state = sym r.state;
      bodies = λ n. sym (r.bodies n);
      part = sym r.part;
    }

module _ (c o : Circumstances) (same : SamePart c o) where
  -- the part of one run at a moved place, beside that of the other
  part_follows :
      {E : Type 0} (j : Judging) (bounds : Bool) (v q : Point) (n n' : Counts) → Bounds E j bounds (translation v) c.setup.job.places
      → Follows E j (translation v) n n' (part_at c j (q ⊕ v) n) (part_at o (unlimited bounds) q n')
  unfolding run_body
  part_follows {E} j bounds v q n n' w =
      subst (λ (t : Setting). comes t c.setup.machine c.before.state) (sym same.setting)
      (subst₂ (comes o.setup.job.setting) (sym same.machine) (sym same.state)
      (go (c.bodies c.part) (o.bodies o.part) same.part))
    where
      -- the part of c comes out so at a setting, on a machine, from a state
      comes : Setting → Machine → State → Type 0
      comes t m s =
          Follows E j (translation v) n n'
          (called j c (c.bodies c.part) (record { job = record { setting = t; places = c.setup.job.places }; machine = m; origin = q ⊕ v; mirror = no_mirror }) (progress (copy_start s (q ⊕ v)) n))
          (part_at o (unlimited bounds) q n')

      go :
          (x y : Option Body) → bytes_of x ≡ bytes_of y
          → Follows E j (translation v) n n'
          (called j c x (moved_frame v c.setup.job.places no_mirror (frame_at (ordinary_frame o.setup) q)) (progress (copy_start o.before.state (q ⊕ v)) n))
          (called (unlimited bounds) o y (frame_at (ordinary_frame o.setup) q) (progress (copy_start o.before.state q) n'))
      go None None e = refusals
      go None (Some b) e = let z : ◌≡◌ {A = ℕ} 0 1 = cc in absurd (omega arith)
      go (Some a) None e = let z : ◌≡◌ {A = ℕ} 0 1 = cc in absurd (omega arith)
      go (Some a) (Some b) e =
          run_body_follows j bounds (translation v) c.setup.job.places w c.bodies o.bodies same.bodies (most_calls - 1) (frame_at (ordinary_frame o.setup) q) no_mirror
          (λ p. seen_moves (frame_at (ordinary_frame o.setup) q) p v) a b
          (let h : Some a.bytes ≡ Some b.bytes = e in cc) (copy_start o.before.state q) n n'

  -- where it is accepted, it is the own run moved
  pub part_own : (j : Judging) (p : Point) (n n' : Counts) → Follows ⊥ j (translation p) n n' (part_at c j p n) (own_from o n')
  unfolding run_body
  part_own j p n n' =
      subst (λ (q : Point). Follows ⊥ j (translation p) n n' (part_at c j q n) (own_from o n')) (zero-⊕ p)
      (part_follows j false p zero_point n n' (bounds_dropped j (translation p) c.setup.job.places))

  -- it is accepted where it is by bounds alone and what it counts fits
  pub part-bounds :
      (j : Judging) (p : Point) (n n' : Counts)
      → Follows (Unit {0}) j (translation zero_point) n n' (part_at c j p n) (part_at o (unlimited j.bounds) p n')
  unfolding run_body
  part-bounds j p n n' =
      subst (λ (q : Point). Follows (Unit {0}) j (translation zero_point) n n' (part_at c j q n) (part_at o (unlimited j.bounds) p n')) (⊕-zero p)
      (part_follows j j.bounds zero_point p n n' (bounds-alike j c.setup.job.places))

-- ---- Runs that are compared

pub alike_turned : {c d : Circumstances} → AllAlike c d → AllAlike d c
alike_turned r =
    record {
      parts = parts-turned r.parts;
      sheet = sym r.sheet;
      origin = sym r.origin;
      corner = sym r.corner;
      blocks = sym r.blocks;
      free = sym r.free;
    }

-- where the part of one is stored, so is that of the other
pub part-stored : {c d : Circumstances} (b : Body) → c.bodies c.part ≡ Some b → SamePart c d → (b' : Body) × (d.bodies d.part ≡ Some b')
part-stored {c} {d} b e r = go (d.bodies d.part) refl
  where
    go : (o : Option Body) → d.bodies d.part ≡ o → (b' : Body) × (d.bodies d.part ≡ Some b')
    go (Some b') p = (b', p)
    go None p = let h : bytes_of (Some b) ≡ bytes_of None = sym (ap bytes_of e) ∙ r.part ∙ ap bytes_of p in let z : ◌≡◌ {A = ℕ} 0 1 = cc in absurd (omega arith)

-- what fits in one fits in the other
pub fit_alike : {c d : Circumstances} {n : Counts} → AllAlike c d → Fit (limits c.setup.job) (counts_of c.before) n → Fit (limits d.setup.job) (counts_of d.before) n
fit_alike {c} {d} r f =
    record {
      blocks = rw r.blocks at f.blocks;
      entries = fits-free c.setup.job.places d.setup.job.places c.before.entries d.before.entries _ r.free f.entries;
    }
