-- Demand 3: moving the reference point moves every hit of a run along. Both runs are the own entries of the first moved to each
-- place (`CopyRuns`), and the places go with the origin (`CopyPlaces`).
use mathlib.Core.Path.{sym, ap, ap₂, ◌∙◌}
use mathlib.Core.List.{List, map}
use Prim.Native.Nat.{ℕ}
use Rattle.aries.specs.declared.point.Point.{Point}
use Rattle.aries.specs.declared.block.Layout.{Layout}
use Rattle.aries.specs.declared.entry.Entry.{Entry}
use Rattle.aries.specs.Moves.{◌⊕◌}
use Rattle.aries.specs.Layouts.{copy_count, copy_place}
use Rattle.aries.specs.CopyRuns.{entries_of, moved_by, moved_sheet, ReferenceMoves}
use Rattle.aries.proofs.Points.{map-moved_by-⊕}
use Rattle.aries.proofs.Joined.{joined_cong, map-joined}
use Rattle.aries.proofs.Counts.{nothing}
use Rattle.aries.proofs.CopyPlaces.{copy_place_moves}
use Rattle.aries.proofs.Parts.{own_from, same-part, parts-turned}
use Rattle.aries.proofs.CopyRuns.{block, place, run-laid_out, run-entries}

pub reference_moves : ReferenceMoves
unfolding copy_place
reference_moves vertical v c d r (m, e) (m', e') =
    let l = (run-laid_out vertical c m e).0 in
    let s = (run-laid_out vertical c m e).1 in
    let own : List Entry = entries_of (own_from c nothing) in
    let moved : Layout = record { reference = l.reference ⊕ v; pitch = l.pitch; steps = l.steps } in
    run-entries vertical d m' e' c (parts-turned r.parts) nothing moved (sym r.sheet ∙ ap (moved_sheet v) s)
    ∙ joined_cong _ _ (copy_count l) 0
    (λ i p q. ap (λ (p : Point). map (moved_by p) own)
    (ap₂ (λ (o : Point) (k : ℕ). copy_place o moved (record { vertical = vertical; part = d.part; corner = k }) i) (sym r.origin) (sym r.corner)
    ∙ copy_place_moves c.setup.origin v (l.reference ⊕ v) l (block vertical c) i)
    ∙ sym (map-moved_by-⊕ (place vertical c l i) v own))
    ∙ sym (map-joined (moved_by v) (λ i. map (moved_by (place vertical c l i)) own) (copy_count l) 0)
    ∙ ap (map (moved_by v)) (sym (run-entries vertical c m e c (same-part c) nothing l s))
