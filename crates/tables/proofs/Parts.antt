-- Laws of the parts of a text between its line feeds: they are its lines, and behind a last line feed an empty part, which is
-- a blank line more.
use mathlib.Core.Path.{◌≡◌, refl, sym, ap, ◌∙◌}
use mathlib.Core.Bool.{Bool, true, false}
use mathlib.Core.List.{List, [], ◌∷◌, ◌++◌}
use Prim.Native.Nat.{ℕ, zero, suc, ◌+◌, ◌<◌}
use native.Mathlib.Nat.{zero-add}
use native.Mathlib.Omega.{arith}
use lib.Dec.{eqb}
use lib.ListN.{length, get_or, drop, drop_of_length-le}
use Rattle.std.specs.Prelude.{Option, Some, None}
use Rattle.std.specs.List.{slice_split, onto_first, enumerate_from}
use Rattle.std.proofs.lemmas.List.{drop_more}
use Rattle.std.proofs.lemmas.List.FromFn.{length-enumerate_from, get_or-enumerate_from}
use Rattle.aries.specs.Text.{line_feed, lines, into_first}
use Rattle.tables.specs.declared.row.Row.{Row}
use Rattle.tables.specs.Rows.{is_blank, row_of}
use Rattle.tables.specs.Tables.{with_row, rows_from}
use Rattle.tables.proofs.Tables.{blank_step, bad_step, full_step, row_step}

-- the parts between line feeds
abbrev pub parts : List ℕ → List (List ℕ)
parts text = slice_split (λ b. eqb b line_feed) text

-- parts that are these lines, or one empty part more
data AreLines : List (List ℕ) → List (List ℕ) → Type 0 where
  same : {ls : List (List ℕ)} → AreLines ls ls
  one_more : {ls : List (List ℕ)} → AreLines (ls ++ [] ∷ []) ls

AreLines-feed : {ps ls : List (List ℕ)} → AreLines ps ls → AreLines ([] ∷ ps) ([] ∷ ls)
AreLines-feed same = same
AreLines-feed one_more = one_more

AreLines-other : (b : ℕ) {ps ls : List (List ℕ)} → AreLines ps ls → AreLines (onto_first b ps) (into_first b ls)
AreLines-other b {ls = []} same = same
AreLines-other b {ls = l ∷ ls} same = same
AreLines-other b {ls = []} one_more = same
AreLines-other b {ls = l ∷ ls} one_more = one_more

parts-lines : (text : List ℕ) → AreLines (parts text) (lines text)
unfolding lines
parts-lines [] = one_more
parts-lines (b ∷ bs) = go (eqb b line_feed) refl (parts-lines bs)
  where
    go : (t : Bool) → eqb b line_feed ≡ t → AreLines (parts bs) (lines bs) → AreLines (parts (b ∷ bs)) (lines (b ∷ bs))
    go true e h = rw (e, lines) (AreLines-feed h)
    go false e h = rw (e, lines) (AreLines-other b h)

-- a blank line more at the end changes nothing
rows_from-blank_end : (places line : ℕ) (ls : List (List ℕ)) → rows_from places line (ls ++ [] ∷ []) ≡ rows_from places line ls
unfolding rows_from
rows_from-blank_end places line [] = refl
rows_from-blank_end places line (l ∷ ls) = go places (is_blank l) (row_of l) refl refl (λ n. rows_from-blank_end n (suc line) ls)
  where
    go :
        (n : ℕ) (b : Bool) (r : Option Row) → is_blank l ≡ b → row_of l ≡ r
        → ((k : ℕ) → rows_from k (suc line) (ls ++ [] ∷ []) ≡ rows_from k (suc line) ls)
        → rows_from n line (l ∷ ls ++ [] ∷ []) ≡ rows_from n line (l ∷ ls)
    go n true r e f h = blank_step l (ls ++ [] ∷ []) line n e ∙ h n ∙ sym (blank_step l ls line n e)
    go n false None e f h = bad_step l (ls ++ [] ∷ []) line n e f ∙ sym (bad_step l ls line n e f)
    go zero false (Some row) e f h = full_step l (ls ++ [] ∷ []) line row e f ∙ sym (full_step l ls line row e f)
    go (suc n) false (Some row) e f h = row_step l (ls ++ [] ∷ []) line row n e f ∙ ap (with_row row) (h n) ∙ sym (row_step l ls line row n e f)

-- so a table is read from the parts as from the lines
pub rows_from-parts : (places line : ℕ) (text : List ℕ) → rows_from places line (parts text) ≡ rows_from places line (lines text)
rows_from-parts places line text = go (parts-lines text)
  where
    go : {ps ls : List (List ℕ)} → AreLines ps ls → rows_from places line ps ≡ rows_from places line ls
    go same = refl
    go (one_more {ls}) = rows_from-blank_end places line ls

-- the part that a loop over the numbered parts has come to
pub part_at :
    (ps : List (List ℕ)) (k before : ℕ) (l : List ℕ) → k < length (enumerate_from 0 ps)
    → ◌≡◌ {A = ℕ × List ℕ} (before, l) (get_or (enumerate_from 0 ps) k (before, l))
    → (before ≡ k) × (drop k ps ≡ l ∷ drop (k + 1) ps)
part_at ps k before l h e =
    let inside : k < length ps = omega (arith, length-enumerate_from 0 ps) in
    let there = e ∙ get_or-enumerate_from 0 ps k (before, l) inside in
    (ap (λ (p : ℕ × List ℕ). p.0) there ∙ zero-add k, drop_more ps k l inside ∙ ap (λ (p : List ℕ). p ∷ drop (k + 1) ps) (sym (ap (λ (p : ℕ × List ℕ). p.1) there)))

-- the end of them
pub parts_end : (ps : List (List ℕ)) (k : ℕ) → k ≡ length (enumerate_from 0 ps) → drop k ps ≡ []
parts_end ps k e = drop_of_length-le ps (omega (arith, e, length-enumerate_from 0 ps))
