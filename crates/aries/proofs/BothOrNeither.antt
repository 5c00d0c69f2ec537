-- Demand 3: by G75 and by G76 both runs are accepted or both are refused. Either is accepted where each cell's copy passes
-- by bounds and what all copies count fits (`Copies`), and both visit every cell (`CopyPlaces`).
use mathlib.Core.Path.{◌≡◌, sym, ap₂, ◌∙◌, subst}
use mathlib.Core.Bool.{Bool, true, false}
use Prim.Native.Nat.{ℕ, ◌<◌}
use native.Mathlib.Omega.{arith}
use Rattle.aries.specs.declared.block.Layout.{Layout}
use Rattle.aries.specs.declared.point.Point.{Point}
use Rattle.aries.specs.Lanes.{column_of, row_of}
use Rattle.aries.specs.Layouts.{copy_count, place_at, copy_place}
use Rattle.aries.specs.CopyRuns.{Circumstances, run, Accepted, AllAlike, BothOrNeither}
use Rattle.aries.proofs.Counts.{counts_of}
use Rattle.aries.proofs.Parts.{same-part, parts-turned, part-stored, fit_alike, alike_turned}
use Rattle.aries.proofs.Copies.{Passes, copies_own, copies_accepted, accepted_copies}
use Rattle.aries.proofs.CopyPlaces.{column_bound, row_bound, copy_at}
use Rattle.aries.proofs.CopyRuns.{place, run-stored, run-laid_out, run-copies, copies-run}

-- the place of a copy in one order is that of a copy in the other
same_place :
    (from to : Bool) (c d : Circumstances) → AllAlike c d → (l : Layout) (i : ℕ) → i < copy_count l
    → (k : ℕ) × (k < copy_count l) × (place from c l k ≡ place to d l i)
unfolding copy_place
same_place from to c d r l i h =
    let x = copy_at from l (column_of to l.steps i) (row_of to l.steps i) (column_bound to l i h) (row_bound to l i h) in (
      x.number,
      x.bound,
      ap₂ (place_at c.setup.origin l c.corner) x.column x.row
          ∙ ap₂ (λ (o : Point) (q : ℕ). place_at o l q (column_of to l.steps i) (row_of to l.steps i)) r.origin r.corner,
    )

-- what one order accepts, the other does
other_order : (from to : Bool) (c d : Circumstances) → AllAlike c d → Accepted (run from c) → Accepted (run to d)
other_order from to c d r (m, e) =
    let l = (run-laid_out from c m e).0 in
    let s = (run-laid_out from c m e).1 in
    let n = counts_of c.before in
    let made = run-copies from c m e l s in
    let own = copies_own c c (same-part c) (place from c l) n (copy_count l) 0 c.before m (omega arith) made in
    let a = copies_accepted c c (same-part c) n own (place from c l) (copy_count l) 0 c.before m made in
    let stored = part-stored (run-stored from c m e).0 (run-stored from c m e).1 r.parts in
    let z = accepted_copies d c (parts-turned r.parts) n own (place to d l) (copy_count l) 0 d.before
    (record {
      passing = λ i p q.
          let k = same_place from to c d r l i (omega arith) in
          let b = k.1 in
          subst (Passes c) k.2 (a.passing k.0 (omega arith) (omega arith));
      fit = fit_alike r a.fit;
    }) in
    (z.0, copies-run to d stored.0 l z.0 stored.1 (sym r.sheet ∙ s) z.1)

pub both_or_neither : BothOrNeither
unfolding run
both_or_neither c d r = (other_order false true c d r, other_order true false d c (alike_turned r))
