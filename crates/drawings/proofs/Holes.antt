-- The holes of a table and of a list, read from the arrays into which the code cuts them.
use Rattle.std.proofs.Common.{◌≡◌, ℕ, zero, suc, ◌/◌, List, [], ◌∷◌, map, length, sym, refl, ap, arith}
use Rattle.std.specs.Simd.{first_chunks}
use Rattle.std.specs.Prelude.{ℤ}
use Rattle.drawings.specs.Holes.{table_holes, list_holes, row_hole, entry_hole}

by_threes : (k : ℕ) (table : List ℤ) → length table / 3 ≡ k → map row_hole (first_chunks 3 k table) ≡ table_holes table
unfolding table_holes
by_threes k [] e = rw (sym e)
by_threes k (x ∷ []) e = rw (sym e)
by_threes k (x ∷ y ∷ []) e = rw (sym e)
by_threes zero (x ∷ y ∷ tool ∷ rest) e = absurd (omega arith)
by_threes (suc k) (x ∷ y ∷ tool ∷ rest) e = ap (λ hs. row_hole (x ∷ y ∷ tool ∷ []) ∷ hs) (by_threes k rest (omega arith))

by_fours : (k : ℕ) (list : List ℤ) → length list / 4 ≡ k → map entry_hole (first_chunks 4 k list) ≡ list_holes list
unfolding list_holes
by_fours k [] e = rw (sym e)
by_fours k (x ∷ []) e = rw (sym e)
by_fours k (x ∷ y ∷ []) e = rw (sym e)
by_fours k (x ∷ y ∷ tool ∷ []) e = rw (sym e)
by_fours zero (x ∷ y ∷ tool ∷ mode ∷ rest) e = absurd (omega arith)
by_fours (suc k) (x ∷ y ∷ tool ∷ mode ∷ rest) e = ap (λ hs. entry_hole (x ∷ y ∷ tool ∷ mode ∷ []) ∷ hs) (by_fours k rest (omega arith))

pub holes_of_rows : (table : List ℤ) → map row_hole (first_chunks 3 (length table / 3) table) ≡ table_holes table
holes_of_rows table = by_threes (length table / 3) table refl

pub holes_of_entries : (list : List ℤ) → map entry_hole (first_chunks 4 (length list / 4) list) ≡ list_holes list
holes_of_entries list = by_fours (length list / 4) list refl
