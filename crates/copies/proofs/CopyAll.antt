-- Laws of `copy_all`: one copy and the rest, and copies of a part without a block.
use Rattle.std.specs.Prelude.{None, Some}
use mathlib.Core.Path.{◌≡◌, refl, sym, ap, subst, ◌∙◌}
use mathlib.Core.Bool.{Bool, true, false}
use Prim.Native.Nat.{ℕ, zero, suc, ◌+◌, ◌-◌, ◌<◌, ◌≤◌}
use native.Mathlib.Numerals.{add-one}
use native.Mathlib.Omega.{arith}
use borrow.Author.Tests.{ltb-true, ltb-false}
use lib.Dec.{T, ltb}
use Rattle.aries.specs.declared.job.Job.{Job}
use Rattle.aries.specs.declared.point.Point.{Point}
use Rattle.aries.specs.declared.refusal.Refusal.TheVariants.{TooFar}
use Rattle.aries.specs.declared.state.Frame.{Frame}
use Rattle.aries.specs.declared.state.Progress.{Progress}
use Rattle.aries.specs.declared.state.State.{State}
use Rattle.aries.specs.Outcome.{Out, refused}
use Rattle.aries.specs.Entries.{Made, no_entry, and_then}
use Rattle.aries.specs.Judging.{Judging, limits, near}
use Rattle.aries.specs.Layouts.{Part, copy_count, copy_place, copy_start, copy, copy_all}
use Rattle.aries.specs.Moves.{with_state}
use Rattle.aries.proofs.Runs.{no_entry_then, Leads, leads_as}
use Rattle.aries.specs.Runs.{Lent, entries_made, Carried}
use Rattle.aries.specs.Setup.{frame_at}
use Rattle.aries.proofs.WidePoints.{at-passed, far_failed}
use Rattle.placing.specs.declared.Places.{Places}
use Rattle.placing.specs.Places.{all_near, last_copy}
use Rattle.placing.proofs.AllNear.{all_near_lem, some_far}
use Rattle.copies.specs.Copying.{blank_part, all_copies}

-- ---- One copy

module _ (job : Job) (part : Part) (f : Frame) (line : ℕ) (found : State) (p : Point) (g : Progress) where
  -- a place too far away
  pub copy_far : near p ≡ false → copy (limits job) part f line found p g ≡ refused TooFar line
  unfolding copy
  copy_far e = simp e

  -- a place near enough: the part is carried out there, from the state found
  pub copy-near : near p ≡ true → copy (limits job) part f line found p g ≡ part (frame_at f p) (with_state g (copy_start found p))
  unfolding copy
  copy-near e = simp e

-- the part carried out at a copy's place, from the state that a copy starts with, is the copy
pub copy-carried :
    (part : Judging → Part) (f : Frame) (line : ℕ) (found : State) (p : Point) (g : Progress) {point : Point} {here : Frame} {state : State} {begun : Progress}
    → (near p ≡ true) × (point ≡ p) → here ≡ frame_at f point → state ≡ copy_start found point → begun ≡ with_state g state
    → {r : Out Progress} {before after : Lent} → Carried r here before after begun (λ j. part j here) → Carried r f before after g (λ j. copy j (part j) f line found p)
copy-carried part f line found p g q h s b ran =
    rw (copy-near f.job (part (limits f.job)) f line found p g q.0) (rw (b, s, h, q.1) at ran)

-- ---- One copy and the rest

module _ (j : Judging) (part : Part) (f : Frame) (line : ℕ) (found : State) (place : ℕ → Point) (count m : ℕ) (g : Progress) where
  pub copies_step : m < count
      → copy_all j part f line found place (count - m) m g
      ≡ and_then (copy j part f line found (place m) g) (copy_all j part f line found place (count - (m + 1)) (m + 1))
  unfolding copy_all
  copies_step h =
      let e : count - m ≡ suc (count - (m + 1)) = omega arith in
      ap (λ (n : ℕ). copy_all j part f line found place n m g) e
      ∙ ap (λ (k : ℕ). and_then (copy j part f line found (place m) g) (copy_all j part f line found place (count - (m + 1)) k)) (sym (add-one m))

  pub copies_end : count ≤ m → copy_all j part f line found place (count - m) m g ≡ no_entry g
  unfolding copy_all
  copies_end h =
      let e : count - m ≡ 0 = omega arith in
      ap (λ (n : ℕ). copy_all j part f line found place n m g) e

-- the same at the places of a layout
module _ (j : Judging) (part : Part) (f : Frame) (line : ℕ) (found : State) (p : Places) where
  -- the copies from copy m on
  abbrev pub copies_from : ℕ → Progress → Out (Made Progress)
  copies_from m g = copy_all j part f line found (copy_place p.origin p.layout p.copies) (copy_count p.layout - m) m g

  abbrev pub copy_m : ℕ → Progress → Out (Made Progress)
  copy_m m g = copy j part f line found (copy_place p.origin p.layout p.copies m) g

  pub copies_all : (g : Progress) → copies_from 0 g ≡ copy_all j part f line found (copy_place p.origin p.layout p.copies) (copy_count p.layout) 0 g
  copies_all g =
      let e : copy_count p.layout - 0 ≡ copy_count p.layout = omega arith in
      ap (λ (n : ℕ). copy_all j part f line found (copy_place p.origin p.layout p.copies) n 0 g) e

  pub next_copy : (m : ℕ) (g : Progress) → m < copy_count p.layout → copies_from m g ≡ and_then (copy_m m g) (copies_from (m + 1))
  next_copy m g h = copies_step j part f line found (copy_place p.origin p.layout p.copies) (copy_count p.layout) m g h

  -- what is left is copy m, at a place that is told, and the rest
  pub copies_left :
      {job : Job} {l l₀ : Lent} {k₀ : ℕ} {whole : Out (Made Progress)} {place : Point} (m : ℕ) (g : Progress)
      → place ≡ copy_place p.origin p.layout p.copies m → m < copy_count p.layout
      → Leads entries_made job l g.entries (copies_from m g) l₀ k₀ whole
      → Leads entries_made job l g.entries (and_then (copy j part f line found place g) (copies_from (m + 1))) l₀ k₀ whole
  copies_left m g here more lead = rw here (leads_as (next_copy m g more) lead)

  pub no_copy_left : (m : ℕ) (g : Progress) → copy_count p.layout ≤ m → copies_from m g ≡ no_entry g
  no_copy_left m g h = copies_end j part f line found (copy_place p.origin p.layout p.copies) (copy_count p.layout) m g h

-- ---- Copies of a part without a block

module _ (job : Job) (f : Frame) (line : ℕ) (found : State) (place : ℕ → Point) where
  abbrev blanks : ℕ → ℕ → Progress → Out (Made Progress)
  blanks n m g = copy_all (limits job) blank_part f line found place n m g

  -- a place near enough, and the rest
  blanks_step : (n m : ℕ) (g : Progress) → near (place m) ≡ true → blanks (suc n) m g ≡ blanks n (suc m) (with_state g (copy_start found (place m)))
  unfolding copy_all
  blanks_step n m g e =
      ap (λ (out : Out (Made Progress)). and_then out (blanks n (suc m))) (copy-near job blank_part f line found (place m) g e)
      ∙ no_entry_then (with_state g (copy_start found (place m))) (blanks n (suc m))

  -- all places are near: the state is that of the last copy
  blanks-near : (n m last : ℕ) (g : Progress) → last ≡ m + n → ((i : ℕ) → i ≤ last → near (place i) ≡ true) → blanks (suc n) m g ≡ no_entry (with_state g (copy_start found (place last)))
  unfolding copy_all
  blanks-near zero m last g e all =
      let z : m ≡ last = omega arith in
      blanks_step 0 m g (all m (omega arith)) ∙ ap (λ (k : ℕ). no_entry (with_state g (copy_start found (place k)))) z
  blanks-near (suc n) m last g e all =
      blanks_step (suc n) m g (all m (omega arith)) ∙ blanks-near n (suc m) last (with_state g (copy_start found (place m))) (omega arith) all

  -- one is too far
  blanks_far : (n m i : ℕ) (g : Progress) → m ≤ i → i < m + n → near (place i) ≡ false → blanks n m g ≡ refused TooFar line
  unfolding copy_all
  blanks_far zero m i g h k far = absurd (omega arith)
  blanks_far (suc n) m i g h k far = go (near (place m)) refl (λ later. blanks_far n (suc m) i (with_state g (copy_start found (place m))) later (omega arith) far)
    where
      go : (t : Bool) → near (place m) ≡ t → (suc m ≤ i → blanks n (suc m) (with_state g (copy_start found (place m))) ≡ refused TooFar line) → blanks (suc n) m g ≡ refused TooFar line
      go false e rest = ap (λ (out : Out (Made Progress)). and_then out (blanks n (suc m))) (copy_far job blank_part f line found (place m) g e)
      go true e rest = blanks_step n m g e ∙ rest (later (ltb m i) refl)
        where
          later : (t : Bool) → ltb m i ≡ t → suc m ≤ i
          later true p = ltb-true m i p
          later false p =
              let z : m ≡ i = let q = ltb-false m i p in omega arith in
              let y : true ≡ false = sym e ∙ ap (λ (k : ℕ). near (place k)) z ∙ far in
              absurd (subst T y tt)

module _ (f : Frame) (line : ℕ) (p : Places) (g : Progress) where
  pub blank_passed :
      {q : Point} → last_copy p.origin p.layout p.copies ≡ Some q
      → all_copies (limits f.job) blank_part f line p g ≡ no_entry (with_state g (copy_start g.state q))
  blank_passed e =
      let place = copy_place p.origin p.layout p.copies in
      let last = copy_count p.layout - 1 in
      let q = at-passed (all_near p.origin p.layout) (place last) e in
      let n : copy_count p.layout ≡ suc last = omega arith in
      ap (λ (k : ℕ). copy_all (limits f.job) blank_part f line g.state place k 0 g) n
      ∙ blanks-near f.job f line g.state place last 0 last g (omega arith) (λ i h. all_near_lem p.origin p.layout p.copies i (omega arith) q.0)
      ∙ ap (λ (p : Point). no_entry (with_state g (copy_start g.state p))) (sym q.1)

  pub blank_refused : last_copy p.origin p.layout p.copies ≡ None → all_copies (limits f.job) blank_part f line p g ≡ refused TooFar line
  blank_refused e =
      let place = copy_place p.origin p.layout p.copies in
      let q = some_far p.origin p.layout p.copies (far_failed (all_near p.origin p.layout) (place (copy_count p.layout - 1)) e) in
      blanks_far f.job f line g.state place (copy_count p.layout) 0 q.0 g (omega arith) (omega arith) q.2
