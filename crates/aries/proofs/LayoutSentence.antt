-- The layout sentence of demand 3: the part of every accepted run is accepted by itself, and the entries of the run are its own
-- entries, moved to each place once. It rests on `CopyRuns` (the entries of the copies) and `CopyPlaces` (the paper's places).
use mathlib.Core.Path.{◌≡◌, sym, ap, ap₂, ◌∙◌}
use mathlib.Core.List.{map}
use Prim.Native.Nat.{ℕ, suc, ◌+◌, ◌*◌}
use native.Mathlib.Numerals.{add-one}
use native.Mathlib.Omega.{arith}
use Rattle.aries.specs.declared.point.Point.{Point}
use Rattle.aries.specs.Layouts.{copy_count}
use Rattle.aries.specs.CopyRuns.{own_entries, moved_by, cell_of, place_of, joined, LayoutSentence}
use Rattle.aries.proofs.Joined.{joined_cong}
use Rattle.aries.proofs.CopyPlaces.{copy_place_is}
use Rattle.aries.proofs.Counts.{counts_of}
use Rattle.aries.proofs.Parts.{same-part}
use Rattle.aries.proofs.Copies.{copies_own}
use Rattle.aries.proofs.CopyRuns.{block, place, run-copies, run-entries}

count_is : (x y : ℕ) → suc x * suc y ≡ (x + 1) * (y + 1)
count_is x y = sym (ap₂ (λ (a b : ℕ). a * b) (add-one x) (add-one y))

pub layout_sentence : LayoutSentence
unfolding joined own_entries
layout_sentence vertical c l s (m, e) =
    let n = counts_of c.before in
    let own = copies_own c c (same-part c) (place vertical c l) n (copy_count l) 0 c.before m (omega arith) (run-copies vertical c m e l s) in (
      (own.result, own.result_is),
      run-entries vertical c m e c (same-part c) n l s
          ∙ joined_cong _ _ (copy_count l) 0
          (λ i p q. ap (λ (p : Point). map (moved_by p) (own_entries c)) (copy_place_is c.setup.origin l (block vertical c) i (omega arith)))
          ∙ ap (λ (n : ℕ). joined (λ i. map (moved_by (place_of c.setup.origin l c.corner (cell_of vertical l i))) (own_entries c)) n 0)
          (count_is l.steps.x l.steps.y),
    )
