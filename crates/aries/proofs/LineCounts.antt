-- Laws of how many lines a text has, and of where a line stands.
use Rattle.std.specs.Prelude.{Option, Some}
use mathlib.Core.Path.{◌≡◌, refl, ap, ◌∙◌}
use mathlib.Core.Bool.{Bool, true, false}
use mathlib.Core.List.{List, [], ◌∷◌}
use Prim.Native.Nat.{ℕ, zero, suc, ◌+◌, ◌≤◌, ◌<◌}
use native.Mathlib.Omega.{arith}
use native.Mathlib.Numerals.{add-one}
use lib.Dec.{eqb}
use lib.ListN.{length, take, drop}
use Rattle.aries.specs.Text.{space, line_feed, is_allowed, stray_line, without_spaces, into_first, lines}

-- ---- A byte more

-- the lines of a text that a byte comes before: it is a line feed, or not
abbrev before : Bool → ℕ → List (List ℕ) → List (List ℕ)
before t b ls = elim t as (λ _. List (List ℕ)) [ true ↦ [] ∷ ls | false ↦ into_first b ls ]

into_some : (b : ℕ) (ls : List (List ℕ)) → 1 ≤ length (into_first b ls)
into_some b [] = omega arith
into_some b (l ∷ ls) = omega arith

into_more : (b : ℕ) (ls : List (List ℕ)) → length ls ≤ length (into_first b ls)
into_more b [] = omega arith
into_more b (l ∷ ls) = omega arith

into_grows : (b : ℕ) (ks ls : List (List ℕ)) → length ks ≤ length ls → length (into_first b ks) ≤ length (into_first b ls)
into_grows b [] ls h = into_some b ls
into_grows b (k ∷ ks) [] h = absurd (omega arith)
into_grows b (k ∷ ks) (l ∷ ls) h = h

before_grows : (t : Bool) (b : ℕ) (ks ls : List (List ℕ)) → length ks ≤ length ls → length (before t b ks) ≤ length (before t b ls)
before_grows true b ks ls h = omega arith
before_grows false b ks ls h = into_grows b ks ls h

before-some : (t : Bool) (b : ℕ) (ls : List (List ℕ)) → 1 ≤ length (before t b ls)
before-some true b ls = omega arith
before-some false b ls = into_some b ls

before_more : (t : Bool) (b : ℕ) (ls : List (List ℕ)) → length ls ≤ length (before t b ls)
before_more true b ls = omega arith
before_more false b ls = into_more b ls

-- ---- How many

-- some byte, some line
pub lines-some : (t : List ℕ) → 1 ≤ length t → 1 ≤ length (lines t)
unfolding lines
lines-some [] h = absurd (omega arith)
lines-some (b ∷ bs) h = before-some (eqb b line_feed) b (lines bs)

-- the front of a text has no more
pub lines-take : (k : ℕ) (t : List ℕ) → length (lines (take k t)) ≤ length (lines t)
unfolding lines
lines-take zero t = omega arith
lines-take (suc k) [] = omega arith
lines-take (suc k) (b ∷ bs) = before_grows (eqb b line_feed) b (lines (take k bs)) (lines bs) (lines-take k bs)

-- nor has a text without its spaces
pub lines_dense : (t : List ℕ) → length (lines (without_spaces t)) ≤ length (lines t)
unfolding lines without_spaces
lines_dense [] = omega arith
lines_dense (b ∷ bs) = go (eqb b space) (lines_dense bs)
  where
    go :
        (t : Bool) → length (lines (without_spaces bs)) ≤ length (lines bs)
        → length (lines (elim t as (λ _. List ℕ) [ true ↦ without_spaces bs | false ↦ b ∷ without_spaces bs ])) ≤ length (lines (b ∷ bs))
    go true h = omega (arith, before_more (eqb b line_feed) b (lines bs))
    go false h = before_grows (eqb b line_feed) b (lines (without_spaces bs)) (lines bs) h

-- none, no byte
lines_none : (t : List ℕ) → lines t ≡ [] → t ≡ []
lines_none [] e = refl
lines_none (b ∷ bs) e = absurd (omega (arith, lines-some (b ∷ bs) (omega arith), ap length e))

-- ---- Where they stand

-- past the first line and its line feed, the others
pub lines_next : (t l : List ℕ) (ls : List (List ℕ)) → lines t ≡ l ∷ ls → lines (drop (length l + 1) t) ≡ ls
unfolding lines
lines_next [] l ls e = let z : ◌≡◌ {A = ℕ} 0 1 = cc in absurd (omega arith)
lines_next (b ∷ bs) l ls e = go (eqb b line_feed) (lines bs) refl e (lines_next bs)
  where
    go :
        (t : Bool) (ks : List (List ℕ)) → lines bs ≡ ks → before t b ks ≡ l ∷ ls
        → ((k : List ℕ) (ks : List (List ℕ)) → lines bs ≡ k ∷ ks → lines (drop (length k + 1) bs) ≡ ks)
        → lines (drop (length l + 1) (b ∷ bs)) ≡ ls
    go true ks p q rest =
        let l-is : ◌≡◌ {A = List ℕ} [] l = cc in
        let ls-is : ks ≡ ls = cc in
        rw (← l-is) (p ∙ ls-is)
    go false [] p q rest =
        let l-is : ◌≡◌ {A = List ℕ} (b ∷ []) l = cc in
        let ls-is : ◌≡◌ {A = List (List ℕ)} [] ls = cc in
        rw (← l-is, lines_none bs p) ls-is
    go false (k ∷ ks) p q rest =
        let l-is : ◌≡◌ {A = List ℕ} (b ∷ k) l = cc in
        let ls-is : ks ≡ ls = cc in
        rw (← l-is, add-one) (rw add-one at (rest k ks p) ∙ ls-is)

-- the line of a stray byte is one of those that begin with the first
pub stray_inside : (t : List ℕ) (first line : ℕ) → stray_line first t ≡ Some line → (first ≤ line) × (line < first + length (lines t))
unfolding stray_line lines
stray_inside [] first line e = let z : ◌≡◌ {A = ℕ} 0 1 = cc in absurd (omega arith)
stray_inside (b ∷ bs) first line e = go (is_allowed b) (eqb b line_feed) e (λ n. stray_inside bs n line)
  where
    go :
        (p q : Bool)
        → elim p as (λ _. Option ℕ) [ false ↦ Some first | true ↦ elim q as (λ _. Option ℕ) [ true ↦ stray_line (suc first) bs | false ↦ stray_line first bs ] ]
        ≡ Some line
        → ((n : ℕ) → stray_line n bs ≡ Some line → (n ≤ line) × (line < n + length (lines bs)))
        → (first ≤ line) × (line < first + length (before q b (lines bs)))
    go false q e rest =
        let h : first ≡ line = cc in
        (omega arith, omega (arith, before-some q b (lines bs)))
    go true true e rest = let h = rest (suc first) e in (omega arith, omega arith)
    go true false e rest = let h = rest first e in (omega arith, omega (arith, into_more b (lines bs)))
