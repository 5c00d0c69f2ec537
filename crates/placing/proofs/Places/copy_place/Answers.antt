-- The column and the row are those of the cursor's place.
use mathlib.Core.Path.{ap, ◌∙◌}
use Prim.Native.Nat.{ℕ}
use Rattle.aries.specs.Layouts.{place_at, copy_place}
use Rattle.aries.proofs.CopyPlaces.{column_bound, row_bound}
use Rattle.lanes.specs.Cursors.{passed}
use Rattle.placing.proofs.Places.copy_place.Goals as goal

pub place_at-requires : goal.place_at-requires
place_at-requires c =
    let a = c.args.self in
    let m = passed c.args.cursor in
    rw (c.column_and_row-column.ensures a.layout.steps c.requires.last)
    (column_bound a.copies.vertical a.layout m c.requires.place, row_bound a.copies.vertical a.layout m c.requires.place)

pub returns : goal.returns
unfolding copy_place
returns c =
    let a = c.args.self in
    c.place_at.ensures
    ∙ ap (λ (p : ℕ × ℕ). place_at a.origin a.layout a.copies.corner p.0 p.1) (c.column_and_row-column.ensures a.layout.steps c.requires.last)
