-- Laws of the tally: hits noted in it one after the other are those of all of them at once, and noted from the first entry on
-- they are the tally of the finished list.
use mathlib.Core.Path.{◌≡◌, refl, sym, ap, ◌∙◌}
use mathlib.Core.Bool.{Bool, true, false, cond, ◌&&◌}
use mathlib.Core.List.{List, [], ◌∷◌, ◌++◌, append-nil}
use Prim.Native.Nat.{ℕ, zero, suc, ◌+◌, ◌-◌, ◌*◌, ◌≤◌, ◌<◌}
use native.Mathlib.Omega.{arith}
use borrow.Author.Tests.{lt-ltb, le-ltb, le-leb, lt-leb, leb-true, leb-false, ltb-true, ltb-false, eq-eqb, ne_eqb}
use lib.Dec.{eqb, leb, ltb}
use lib.ListN.{length, get_or, set, length-append, length-set}
use lib.Seq.{get_or-set_same, get_or-set_other, set_out, set-set, set_comm}
use Rattle.aries.specs.declared.entry.Entry.{Entry}
use Rattle.aries.specs.declared.entry.Hit.{Hit}
use Rattle.aries.specs.Test.{within}
use Rattle.aries.specs.Numbers.{last_tool}
use Rattle.aries.specs.Tally.{is_hit_by, indexes_from, indexes_of, first_of, last_after, last_of, figures, tally_from, tally_of, no_tally}
use Rattle.aries.specs.Tallying.{too_wide, capped, figure, with_figures, hits_noted, with_hits, tally_put}

-- ---- Whether hits are noted

module _ (t : List ℕ) (tool from to : ℕ) where
  pub with_hits_noted : 1 ≤ tool → tool ≤ last_tool → from < to → with_hits t tool from to ≡ hits_noted t (3 * (tool - 1)) from to
  with_hits_noted a b c = simp (le-leb 1 tool a, le-leb tool last_tool b, lt-ltb from to c)

  pub with_hits_no_tool : tool < 1 → with_hits t tool from to ≡ t
  with_hits_no_tool h = simp (lt-leb 1 tool h)

  pub with_hits-past_tools : last_tool < tool → with_hits t tool from to ≡ t
  with_hits-past_tools h = let a : 1 ≤ tool = omega arith in simp (le-leb 1 tool a, lt-leb tool last_tool h)

  pub with_no_hits : to ≤ from → with_hits t tool from to ≡ t
  with_no_hits h = rw (le-ltb from to h) (go (within 1 last_tool tool))
    where
      go : (b : Bool) → cond (b && false) (hits_noted t (3 * (tool - 1)) from to) t ≡ t
      go true = refl
      go false = refl

-- ---- Hits after hits

-- what is capped and then more is capped alike
capped-twice : (n m : ℕ) → capped (capped n + m) ≡ capped (n + m)
capped-twice n m = go (ltb n too_wide) refl
  where
    go : (b : Bool) → ltb n too_wide ≡ b → capped (cond b n (too_wide - 1) + m) ≡ capped (n + m)
    go true e = refl
    go false e =
        let h = ltb-false n too_wide e in
        let a : too_wide ≤ n + m = omega arith in
        rw (le-ltb (n + m) too_wide a) (full (ltb ((too_wide - 1) + m) too_wide) refl)
      where
        full : (b : Bool) → ltb ((too_wide - 1) + m) too_wide ≡ b → cond b ((too_wide - 1) + m) (too_wide - 1) ≡ (too_wide - 1)
        full true f = let z = ltb-true ((too_wide - 1) + m) too_wide f in omega arith
        full false f = refl

-- what is written where it was written before may as well be made of what was written: past the end neither is
set_again : (l l' : List ℕ) (i a : ℕ) (g : ℕ → ℕ) → length l ≡ length l' → set l i (g (get_or (set l' i a) i 0)) ≡ set l i (g a)
set_again l l' i a g same = go (ltb i (length l)) refl
  where
    go : (b : Bool) → ltb i (length l) ≡ b → set l i (g (get_or (set l' i a) i 0)) ≡ set l i (g a)
    go true e = let h = ltb-true i (length l) e in ap (λ (n : ℕ). set l i (g n)) (get_or-set_same l' i a 0 (omega arith))
    go false e = let h = ltb-false i (length l) e in set_out l i (g (get_or (set l' i a) i 0)) h ∙ sym (set_out l i (g a) h)

-- three figures, written over
module _ (t : List ℕ) (at hits first last : ℕ) where
  abbrev new : List ℕ
  new = with_figures t at hits first last

  over_again : (h f l : ℕ) → with_figures new at h f l ≡ with_figures t at h f l
  over_again h f l = ap (λ (x : List ℕ). set (set x (at + 1) f) (at + 2) l) one ∙ ap (λ (x : List ℕ). set x (at + 2) l) two ∙ three
    where
      one : set new at h ≡ set (set (set t at h) (at + 1) first) (at + 2) last
      one =
          set_comm (set (set t at hits) (at + 1) first) (at + 2) at last h (λ e. omega arith)
          ∙ ap (λ (x : List ℕ). set x (at + 2) last)
          (set_comm (set t at hits) (at + 1) at first h (λ e. omega arith) ∙ ap (λ (x : List ℕ). set x (at + 1) first) (set-set t at hits h))

      two : set (set (set (set t at h) (at + 1) first) (at + 2) last) (at + 1) f ≡ set (set (set t at h) (at + 1) f) (at + 2) last
      two =
          set_comm (set (set t at h) (at + 1) first) (at + 2) (at + 1) last f (λ e. omega arith)
          ∙ ap (λ (x : List ℕ). set x (at + 2) last) (set-set (set t at h) (at + 1) first f)

      three : set (set (set (set t at h) (at + 1) f) (at + 2) last) (at + 2) l ≡ with_figures t at h f l
      three = set-set (set (set t at h) (at + 1) f) (at + 2) last l

  -- hits made of those written
  over_more : (g : ℕ → ℕ) (f l : ℕ) → with_figures t at (g (figure new at)) f l ≡ with_figures t at (g hits) f l
  over_more g f l =
      ap (λ (x : List ℕ). set (set x (at + 1) f) (at + 2) l)
      (ap (λ (n : ℕ). set t at (g n)) (get_or-set_other (set (set t at hits) (at + 1) first) (at + 2) at last 0 (λ e. omega arith) ∙ get_or-set_other (set t at hits) (at + 1) at first 0 (λ e. omega arith))
      ∙ set_again t t at hits g refl)

  -- and a first index of that one
  over_first : (g : ℕ → ℕ) (h l : ℕ) → with_figures t at h (g (figure new (at + 1))) l ≡ with_figures t at h (g first) l
  over_first g h l =
      ap (λ (x : List ℕ). set x (at + 2) l)
      (ap (λ (n : ℕ). set (set t at h) (at + 1) (g n)) (get_or-set_other (set (set t at hits) (at + 1) first) (at + 2) (at + 1) last 0 (λ e. omega arith))
      ∙ set_again (set t at h) (set t at hits) (at + 1) first g (length-set t at h ∙ sym (length-set t at hits)))

-- hits with one tool up to a place and on from there are hits in one go
module _ (t : List ℕ) (at from mid to : ℕ) (a : from < mid) (b : mid < to) where
  abbrev hits : ℕ
  hits = capped (figure t at + (mid - from))

  abbrev first : ℕ
  first = cond (eqb (figure t (at + 1)) 0) (from + 1) (figure t (at + 1))

  abbrev more : ℕ → ℕ
  more n = capped (n + (to - mid))

  abbrev again : ℕ → ℕ
  again n = cond (eqb n 0) (mid + 1) n

  same_hits : more hits ≡ capped (figure t at + (to - from))
  same_hits =
      let e : figure t at + (mid - from) + (to - mid) ≡ figure t at + (to - from) = omega arith in
      capped-twice (figure t at + (mid - from)) (to - mid) ∙ ap capped e

  same_first : again first ≡ first
  same_first = go (eqb (figure t (at + 1)) 0) refl
    where
      go :
          (z : Bool) → eqb (figure t (at + 1)) 0 ≡ z
          → again (cond z (from + 1) (figure t (at + 1))) ≡ cond z (from + 1) (figure t (at + 1))
      go true e = rw (ne_eqb (from + 1) 0 (λ f. omega arith))
      go false e = rw e

  hits_noted_on : hits_noted (hits_noted t at from mid) at mid to ≡ hits_noted t at from to
  hits_noted_on =
      over_again t at hits first mid (more (figure noted at)) (again (figure noted (at + 1))) to
      ∙ over_more t at hits first mid more (again (figure noted (at + 1))) to
      ∙ over_first t at hits first mid again (more hits) to
      ∙ ap (λ (n : ℕ). with_figures t at n (again first) to) same_hits
      ∙ ap (λ (n : ℕ). with_figures t at (capped (figure t at + (to - from))) n to) same_first
    where
      noted : List ℕ
      noted = hits_noted t at from mid

-- one hit, and then so many more
pub with_hits_on : (t : List ℕ) (tool k n : ℕ) → with_hits (with_hits t tool k (k + 1)) tool (k + 1) (k + 1 + n) ≡ with_hits t tool k (k + suc n)
with_hits_on t tool k zero =
    let e : k + 1 ≡ k + suc 0 = omega arith in
    with_no_hits (with_hits t tool k (k + 1)) tool (k + 1) (k + 1 + 0) (omega arith) ∙ ap (λ (n : ℕ). with_hits t tool k n) e
with_hits_on t tool k (suc n) = go (leb 1 tool) (leb tool last_tool) refl refl
  where
    e : k + 1 + suc n ≡ k + suc (suc n)
    e = omega arith

    go : (b c : Bool) → leb 1 tool ≡ b → leb tool last_tool ≡ c → with_hits (with_hits t tool k (k + 1)) tool (k + 1) (k + 1 + suc n) ≡ with_hits t tool k (k + suc (suc n))
    go false c f g = simp f
    go true false f g = simp (f, g)
    go true true f g =
        let p = leb-true 1 tool f in
        let q = leb-true tool last_tool g in
        ap (λ (x : List ℕ). with_hits x tool (k + 1) (k + 1 + suc n)) (with_hits_noted t tool k (k + 1) p q (omega arith))
        ∙ with_hits_noted (hits_noted t (3 * (tool - 1)) k (k + 1)) tool (k + 1) (k + 1 + suc n) p q (omega arith)
        ∙ hits_noted_on t (3 * (tool - 1)) k (k + 1) (k + 1 + suc n) (omega arith) (omega arith)
        ∙ ap (λ (m : ℕ). hits_noted t (3 * (tool - 1)) k m) e
        ∙ sym (with_hits_noted t tool k (k + suc (suc n)) p q (omega arith))

-- ---- Where a tool stands once there is an entry more

module _ (tool : ℕ) where
  indexes_snoc : (i : ℕ) (a : List Entry) (e : Entry) → indexes_from tool i (a ++ e ∷ []) ≡ indexes_from tool i a ++ cond (is_hit_by tool e) ((i + length a) ∷ []) []
  unfolding indexes_from
  indexes_snoc i [] e = let z : i + 0 ≡ i = omega arith in rw z
  indexes_snoc i (d ∷ a) e =
      let z : suc i + length a ≡ i + suc (length a) = omega arith in
      let h = indexes_snoc (suc i) a e in
      rw (sym z) (go (is_hit_by tool d) h)
    where
      go :
          (b : Bool) → indexes_from tool (suc i) (a ++ e ∷ []) ≡ indexes_from tool (suc i) a ++ cond (is_hit_by tool e) ((suc i + length a) ∷ []) []
          → cond b (i ∷ indexes_from tool (suc i) (a ++ e ∷ [])) (indexes_from tool (suc i) (a ++ e ∷ [])) ≡ cond b (i ∷ indexes_from tool (suc i) a) (indexes_from tool (suc i) a) ++ cond (is_hit_by tool e) ((suc i + length a) ∷ []) []
      go true h = ap (λ (is : List ℕ). i ∷ is) h
      go false h = h

  -- no more hits than entries
  few_indexes : (i : ℕ) (a : List Entry) → length (indexes_from tool i a) ≤ length a
  unfolding indexes_from
  few_indexes i [] = omega arith
  few_indexes i (d ∷ a) = go (is_hit_by tool d) (few_indexes (suc i) a)
    where
      go : (b : Bool) → length (indexes_from tool (suc i) a) ≤ length a → length (cond b (i ∷ indexes_from tool (suc i) a) (indexes_from tool (suc i) a)) ≤ suc (length a)
      go true h = omega arith
      go false h = omega arith

  -- the first of them, and another; an index is not 0
  first_snoc :
      (i : ℕ) (a : List Entry) (k : ℕ)
      → first_of (indexes_from tool (suc i) a ++ k ∷ []) ≡ cond (eqb (first_of (indexes_from tool (suc i) a)) 0) k (first_of (indexes_from tool (suc i) a))
  unfolding indexes_from
  first_snoc i [] k = refl
  first_snoc i (d ∷ a) k = go (is_hit_by tool d) (first_snoc (suc i) a k)
    where
      go :
          (b : Bool)
          → first_of (indexes_from tool (suc (suc i)) a ++ k ∷ []) ≡ cond (eqb (first_of (indexes_from tool (suc (suc i)) a)) 0) k (first_of (indexes_from tool (suc (suc i)) a))
          → first_of (cond b (suc i ∷ indexes_from tool (suc (suc i)) a) (indexes_from tool (suc (suc i)) a) ++ k ∷ []) ≡ cond (eqb (first_of (cond b (suc i ∷ indexes_from tool (suc (suc i)) a) (indexes_from tool (suc (suc i)) a))) 0) k (first_of (cond b (suc i ∷ indexes_from tool (suc (suc i)) a) (indexes_from tool (suc (suc i)) a)))
      go true h = rw (ne_eqb (suc i) 0 (λ f. omega arith))
      go false h = h

last_snoc : (i : ℕ) (is : List ℕ) (k : ℕ) → last_after i (is ++ k ∷ []) ≡ k
last_snoc i [] k = refl
last_snoc i (j ∷ is) k = last_snoc j is k

-- ---- The tally once there is an entry more

-- tools that stand where they stood
tally-same :
    (low n : ℕ) (a b : List Entry) → ((u : ℕ) → low ≤ u → u < low + n → indexes_of u b ≡ indexes_of u a) → tally_from low n b ≡ tally_from low n a
unfolding tally_from
tally-same low zero a b same = refl
tally-same low (suc n) a b same =
    let rest = tally-same (suc low) n a b (λ u h k. same u (omega arith) (omega arith)) in
    let e = same low (omega arith) (omega arith) in
    rw (e, rest)

-- a tool from another on is that one, or comes after it
data From (low tool : ℕ) : Type 0 where
  at_low : low ≡ tool → From low tool
  past_low : low < tool → From low tool

from : (low tool : ℕ) → low ≤ tool → From low tool
from low tool h = go (ltb low tool) refl
  where
    go : (b : Bool) → ltb low tool ≡ b → From low tool
    go true e = past_low (ltb-true low tool e)
    go false e = let l = ltb-false low tool e in at_low (omega arith)

-- one of three figures, whatever comes after them
figure_of : (is rest : List ℕ) (r : ℕ) → r < 3 → figure (figures is ++ rest) r ≡ figure (figures is) r
figure_of is rest zero h = refl
figure_of is rest (suc zero) h = refl
figure_of is rest (suc (suc zero)) h = refl
figure_of is rest (suc (suc (suc r))) h = absurd (omega arith)

-- the figures of a tool, read
module _ (tool : ℕ) (a : List Entry) where
  tally-figure :
      (low n r : ℕ) → low ≤ tool → tool < low + n → r < 3 → figure (tally_from low n a) (3 * (tool - low) + r) ≡ figure (figures (indexes_of tool a)) r
  unfolding tally_from
  tally-figure low zero r h k l = absurd (omega arith)
  tally-figure low (suc n) r h k l = go (from low tool h) (λ i. tally-figure (suc low) n r i (omega arith) l)
    where
      go :
          From low tool → (suc low ≤ tool → figure (tally_from (suc low) n a) (3 * (tool - suc low) + r) ≡ figure (figures (indexes_of tool a)) r)
          → figure (tally_from low (suc n) a) (3 * (tool - low) + r) ≡ figure (figures (indexes_of tool a)) r
      go (at_low e) rest =
          let z : 3 * (tool - low) + r ≡ r = omega arith in
          ap (figure (tally_from low (suc n) a)) z
          ∙ ap (λ (t : ℕ). figure (tally_from t (suc n) a) r) e
          ∙ figure_of (indexes_of tool a) (tally_from (suc tool) n a) r l
      go (past_low i) rest =
          let z : 3 * (tool - low) + r ≡ suc (suc (suc (3 * (tool - suc low) + r))) = omega arith in
          rw z (rest (omega arith))

  -- and written, where no other tool stands elsewhere than before
  module _ (b : List Entry) (same : (u : ℕ) → (u ≡ tool → ⊥) → indexes_of u b ≡ indexes_of u a) where
    abbrev rewritten : ℕ → ℕ → List ℕ
    rewritten low n = with_figures (tally_from low n a) (3 * (tool - low)) (length (indexes_of tool b)) (first_of (indexes_of tool b)) (last_of (indexes_of tool b))

    tally-written : (low n : ℕ) → low ≤ tool → tool < low + n → rewritten low n ≡ tally_from low n b
    unfolding tally_from
    tally-written low zero h k = absurd (omega arith)
    tally-written low (suc n) h k = go (from low tool h) (λ l. tally-written (suc low) n l (omega arith))
      where
        go : From low tool → (suc low ≤ tool → rewritten (suc low) n ≡ tally_from (suc low) n b) → rewritten low (suc n) ≡ tally_from low (suc n) b
        go (at_low e) rest =
            let z : 3 * (tool - low) ≡ 0 = omega arith in
            let t = tally-same (suc low) n a b (λ u l _. same u (λ f. omega arith)) in
            rw (z, t, e)
        go (past_low l) rest =
            let z : 3 * (tool - low) ≡ suc (suc (suc (3 * (tool - suc low)))) = omega arith in
            let z1 : suc (suc (suc (3 * (tool - suc low)))) + 1 ≡ suc (suc (suc (3 * (tool - suc low) + 1))) = omega arith in
            let z2 : suc (suc (suc (3 * (tool - suc low)))) + 2 ≡ suc (suc (suc (3 * (tool - suc low) + 2))) = omega arith in
            let s = same low (λ f. omega arith) in
            rw (z, z1, z2, s)
            (ap (λ (t : List ℕ). figures (indexes_of low a) ++ t) (rest (omega arith)))

-- one entry more, at the place after the others
module _ (a : List Entry) where
  -- a tool that it is not a hit with
  indexes_kept : (tool : ℕ) (e : Entry) → is_hit_by tool e ≡ false → indexes_of tool (a ++ e ∷ []) ≡ indexes_of tool a
  indexes_kept tool e h = indexes_snoc tool 1 a e ∙ ap (λ (b : Bool). indexes_of tool a ++ cond b ((1 + length a) ∷ []) []) h ∙ append-nil (indexes_of tool a)

  module _ (h : Hit) where
    abbrev longer : List Entry
    longer = a ++ Entry.Hit h ∷ []

    abbrev stood : List ℕ
    stood = indexes_of h.tool a

    stands : indexes_of h.tool longer ≡ stood ++ (length a + 1) ∷ []
    stands =
        let z : 1 + length a ≡ length a + 1 = omega arith in
        indexes_snoc h.tool 1 a (Entry.Hit h) ∙ rw (eq-eqb h.tool h.tool refl, z)

    others : (u : ℕ) → (u ≡ h.tool → ⊥) → indexes_of u longer ≡ indexes_of u a
    others u ne = indexes_kept u (Entry.Hit h) (ne_eqb h.tool u (λ e. ne (sym e)))

    -- a tool that is counted
    module _ (low n : ℕ) (p : low ≤ h.tool) (q : h.tool < low + n) (short : length a + 1 < too_wide) where
      abbrev before : List ℕ
      before = tally_from low n a

      abbrev at : ℕ
      at = 3 * (h.tool - low)

      hits_is : capped (figure before at + (length a + 1 - length a)) ≡ length (indexes_of h.tool longer)
      hits_is =
          let few = few_indexes h.tool 1 a in
          let z₀ : at ≡ at + 0 = omega arith in
          let z : length stood + (length a + 1 - length a) ≡ length stood + 1 = omega arith in
          let l : length stood + 1 < too_wide = omega arith in
          ap (λ (m : ℕ). capped (m + (length a + 1 - length a))) (ap (figure before) z₀ ∙ tally-figure h.tool a low n 0 p q (omega arith))
          ∙ ap capped z
          ∙ rw (lt-ltb (length stood + 1) too_wide l) (sym (length-append stood ((length a + 1) ∷ [])))
          ∙ ap length (sym stands)

      first_is : cond (eqb (figure before (at + 1)) 0) (length a + 1) (figure before (at + 1)) ≡ first_of (indexes_of h.tool longer)
      first_is =
          ap (λ (m : ℕ). cond (eqb m 0) (length a + 1) m) (tally-figure h.tool a low n 1 p q (omega arith))
          ∙ sym (first_snoc h.tool 0 a (length a + 1))
          ∙ ap first_of (sym stands)

      last_is : length a + 1 ≡ last_of (indexes_of h.tool longer)
      last_is = sym (ap last_of stands ∙ last_snoc 0 stood (length a + 1))

      hit_noted : hits_noted before at (length a) (length a + 1) ≡ tally_from low n longer
      hit_noted =
          ap (λ (m : ℕ). with_figures before at m (cond (eqb (figure before (at + 1)) 0) (length a + 1) (figure before (at + 1))) (length a + 1)) hits_is
          ∙ ap (λ (m : ℕ). with_figures before at (length (indexes_of h.tool longer)) m (length a + 1)) first_is
          ∙ ap (λ (m : ℕ). with_figures before at (length (indexes_of h.tool longer)) (first_of (indexes_of h.tool longer)) m) last_is
          ∙ tally-written h.tool a longer others low n p q

-- the tally of a list with an entry more
tally_of_lem : (es : List Entry) → tally_of es ≡ tally_from 1 last_tool es
unfolding tally_of
tally_of_lem es = refl

pub put-tally : (a : List Entry) (e : Entry) → length a + 1 < too_wide → tally_put (tally_of a) (length a) e ≡ tally_of (a ++ e ∷ [])
put-tally a (Entry.Stop optional) short =
    tally_of_lem a ∙ sym (tally-same 1 last_tool a (a ++ Entry.Stop optional ∷ []) (λ u _ _. indexes_kept a u (Entry.Stop optional) refl)) ∙ sym (tally_of_lem (a ++ Entry.Stop optional ∷ []))
put-tally a (Entry.Hit h) short =
    ap (λ (t : List ℕ). with_hits t h.tool (length a) (length a + 1)) (tally_of_lem a) ∙ go (leb 1 h.tool) (leb h.tool last_tool) refl refl ∙ sym (tally_of_lem (longer a h))
  where
    go :
        (b c : Bool) → leb 1 h.tool ≡ b → leb h.tool last_tool ≡ c
        → with_hits (tally_from 1 last_tool a) h.tool (length a) (length a + 1) ≡ tally_from 1 last_tool (longer a h)
    go true true f g =
        let p = leb-true 1 h.tool f in
        let q = leb-true h.tool last_tool g in
        with_hits_noted (tally_from 1 last_tool a) h.tool (length a) (length a + 1) p q (omega arith) ∙ hit_noted a h 1 last_tool p (omega arith) short
    go false c f g =
        let p = leb-false 1 h.tool f in
        with_hits_no_tool (tally_from 1 last_tool a) h.tool (length a) (length a + 1) p
        ∙ sym (tally-same 1 last_tool a (longer a h) (λ u l _. others a h u (λ e. omega arith)))
    go true false f g =
        let q = leb-false h.tool last_tool g in
        with_hits-past_tools (tally_from 1 last_tool a) h.tool (length a) (length a + 1) q
        ∙ sym (tally-same 1 last_tool a (longer a h) (λ u _ l. others a h u (λ e. omega arith)))

-- without entries it has no hits
pub tally_none : tally_of [] ≡ no_tally
unfolding tally_of
tally_none = refl
