-- The lent list: entries put from its start, and what is cleared past them.
use mathlib.Core.Path.{◌≡◌, refl, sym, ap, ◌∙◌}
use mathlib.Core.List.{List, [], ◌∷◌, ◌++◌, append-nil}
use Prim.Native.Nat.{ℕ, suc, ◌+◌, ◌-◌, ◌*◌, ◌/◌, ◌<◌, ◌≤◌}
use native.Mathlib.Omega.{arith}
use lib.IntN.{ℤ, pos}
use lib.ListN.{length, take, drop, replicate}
use lib.Seq.{sets, sets-eq, take_at, take_all}
use Rattle.aries.specs.declared.entry.Entry.{Entry}
use Rattle.aries.specs.Entries.{cells}
use Rattle.aries.specs.Runs.{Lent, put, over}
use Rattle.aries.proofs.Runs.{length-put, put-inside}

-- ---- Entries

-- four numbers an entry
pub length-cells : (es : List Entry) → length (cells es) ≡ 4 * length es
unfolding cells
length-cells [] = refl
length-cells (a ∷ es) = let e = length-cells es in omega arith

-- entries that all have places are their numbers written one by one
over_sets : (l : Lent) (k : ℕ) (es : List Entry) → k + length es ≤ length l.list / 4 → (over l k es).list ≡ sets l.list (4 * k) (cells es)
unfolding over cells
over_sets l k [] fit = refl
over_sets l k (a ∷ es) fit =
    let n = length-put l k a in
    let i : k < length l.list / 4 = omega arith in
    let e : 4 * (k + 1) ≡ suc (suc (suc (suc (4 * k)))) = omega arith in
    let d : 4 * k + 1 ≡ suc (4 * k) = omega arith in
    let b : 4 * k + 2 ≡ suc (suc (4 * k)) = omega arith in
    let c : 4 * k + 3 ≡ suc (suc (suc (4 * k))) = omega arith in
    over_sets (put l k a) (k + 1) es (omega arith) ∙ ap (λ (r : List ℤ). sets r (4 * (k + 1)) (cells es)) (put-inside l k a i) ∙ rw (e, d, b, c)

-- from the start of the list they are its first numbers, and the rest stays
over-start : (l : Lent) (es : List Entry) → length es ≤ length l.list / 4 → (over l 0 es).list ≡ cells es ++ drop (4 * length es) l.list
over-start l es fit =
    let n = length-cells es in
    let i : 0 + length (cells es) ≤ length l.list = omega arith in
    let e : 0 + length (cells es) ≡ 4 * length es = omega arith in
    over_sets l 0 es (omega arith) ∙ sets-eq (cells es) l.list 0 i ∙ ap (λ (k : ℕ). cells es ++ drop k l.list) e

-- cleared past the entries
pub cleared_past :
    (l : Lent) (es : List Entry) → length es ≤ length l.list / 4
    → take (length es * 4) (over l 0 es).list ++ replicate (length l.list - length es * 4) (pos 0)
    ≡ cells es ++ replicate (length l.list - length (cells es)) (pos 0)
cleared_past l es fit =
    let n = length-cells es in
    let e : length (cells es) ≡ length es * 4 = omega arith in
    ap (λ (r : List ℤ). take (length es * 4) r ++ replicate (length l.list - length es * 4) (pos 0)) (over-start l es fit)
    ∙ ap (λ (r : List ℤ). r ++ replicate (length l.list - length es * 4) (pos 0)) (take_at (cells es) (drop (4 * length es) l.list) (length es * 4) e)
    ∙ ap (λ (k : ℕ). cells es ++ replicate (length l.list - k) (pos 0)) (sym e)

-- ---- Clearing

-- a list, cleared from a place on
abbrev pub cleared : List ℤ → ℕ → List ℤ
cleared l from = take from l ++ replicate (length l - from) (pos 0)

-- at the end nothing is left to clear
pub clear_end : (l : List ℤ) (i : ℕ) → i ≡ length l → cleared l i ≡ l
clear_end l i e =
    let z : length l - i ≡ 0 = omega arith in
    let n : length l ≤ i = omega arith in
    rw z (append-nil (take i l) ∙ take_all i l n)
