-- Laws of stray bytes and of the bytes other than spaces, at a place of a text; and of copying them.
-- Assumes nothing.
use mathlib.Core.Path.{◌≡◌, refl, sym, ap, ◌∙◌}
use mathlib.Core.Bool.{Bool, true, false, cond, not, ◌&&◌, and_assoc, and-true, true≢false}
use mathlib.Core.List.{List, [], ◌∷◌, ◌++◌, append-nil}
use Prim.Native.Nat.{ℕ, suc, ◌+◌, ◌≤◌, ◌<◌}
use native.Mathlib.Nat.{le_refl, add-zero}
use native.Mathlib.Omega.{arith}
use native.Mathlib.Numerals.{add-one}
use lib.Dec.{eqb, ltb, leb-suc-suc}
use lib.ListN.{length, take, drop, get_or, set, drop_of_length-le}
use lib.Seq.{drop-cons, take-suc-set, take-set-le, append_snoc, length-take-le}
use borrow.Author.Tests.{eq-eqb, ne_eqb, lt-ltb}
use Rattle.std.proofs.lemmas.List.Sums.{sum_by-cons}
use Rattle.std.specs.Prelude.{Some, None, Option}
use Rattle.std.proofs.lemmas.Option.{cond_some, none-some}
use Rattle.std.specs.List.{fold, count_by, position, position_or_len}
use Rattle.aries.specs.Test.{every}
use Rattle.aries.specs.Text.{space, line_feed, is_allowed, stray_line, without_spaces}
use Rattle.text.specs.Cleaning.{Copied}
use Rattle.text.specs.Lines.{is_feed}

-- ---- whether all bytes are allowed

-- taken one by one they are what they are together
pub allowed_fold : (all : Bool) (t : List ℕ) → fold (λ p b. p && is_allowed b) all t ≡ all && every is_allowed t
allowed_fold all [] = sym (and-true all)
allowed_fold all (b ∷ bs) = allowed_fold (all && is_allowed b) bs ∙ and_assoc all (is_allowed b) (every is_allowed bs)

-- they are where none is stray
pub stray_none : (line : ℕ) (t : List ℕ) → every is_allowed t ≡ true → stray_line line t ≡ None
unfolding stray_line
stray_none line [] e = refl
stray_none line (b ∷ bs) e = go (is_allowed b) (eqb b line_feed) e (λ l. stray_none l bs)
  where
    go :
        (p q : Bool) → (p && every is_allowed bs) ≡ true → ((l : ℕ) → every is_allowed bs ≡ true → stray_line l bs ≡ None)
        → ◌≡◌ {A = Option ℕ} (elim p [
          | false ↦ Some line
          | true ↦ elim q [ true ↦ stray_line (suc line) bs | false ↦ stray_line line bs ]
        ]) None
    go false q e rest = absurd (true≢false (sym e))
    go true true e rest = rest (suc line) e
    go true false e rest = rest line e

-- ---- the first stray byte

abbrev pub is_stray : ℕ → Bool
is_stray b = not (is_allowed b)

-- its line, by the line feeds before its place
pub stray_at :
    (line : ℕ) (t : List ℕ)
    → stray_line line t
    ≡ cond (ltb (position_or_len is_stray t) (length t)) (Some (line + count_by is_feed (take (position_or_len is_stray t) t))) None
unfolding stray_line
stray_at line [] = refl
stray_at line (b ∷ bs) = go (is_allowed b) (eqb b line_feed) refl (λ l. stray_at l bs)
  where
    place : ℕ
    place = position_or_len is_stray bs

    before : ℕ
    before = count_by is_feed (take place bs)

    go :
        (p q : Bool) → eqb b line_feed ≡ q
        → ((l : ℕ) → stray_line l bs ≡ cond (ltb place (length bs)) (Some (l + before)) None)
        → elim p [
          | false ↦ Some line
          | true ↦ elim q [ true ↦ stray_line (suc line) bs | false ↦ stray_line line bs ]
        ]
        ≡ cond (ltb (cond (not (not p)) (1 + place) 0) (suc (length bs))) (Some (line + count_by is_feed (take (cond (not (not p)) (1 + place) 0) (b ∷ bs)))) None
    go false q e rest = simp (lt-ltb 0 (suc (length bs)) (omega arith), add-zero)
    go true true e rest =
        let s : 1 + place ≡ suc place = omega arith in
        let n : suc line + before ≡ line + count_by is_feed (b ∷ take place bs) = simp (sum_by-cons (λ x. cond (is_feed x) 1 0) b (take place bs), e) (omega arith) in
        let w : ltb (suc place) (suc (length bs)) ≡ ltb place (length bs) = leb-suc-suc (suc place) (length bs) in
        rest (suc line) ∙ rw (s, w, ← n) refl
    go true false e rest =
        let s : 1 + place ≡ suc place = omega arith in
        let n : line + before ≡ line + count_by is_feed (b ∷ take place bs) = simp (sum_by-cons (λ x. cond (is_feed x) 1 0) b (take place bs), e) (omega arith) in
        let w : ltb (suc place) (suc (length bs)) ≡ ltb place (length bs) = leb-suc-suc (suc place) (length bs) in
        rest line ∙ rw (s, w, ← n) refl

-- by what `position` gives
pub place_found : (t : List ℕ) (i : ℕ) → position is_stray t ≡ Some i → Some (1 + count_by is_feed (take i t)) ≡ stray_line 1 t
place_found t i e =
    let p = cond_some (ltb (position_or_len is_stray t) (length t)) (position_or_len is_stray t) i e in
    sym (stray_at 1 t ∙ rw (p.0, p.1) refl)

pub place_none : (t : List ℕ) → position is_stray t ≡ None → None ≡ stray_line 1 t
place_none t e = go (ltb (position_or_len is_stray t) (length t)) refl
  where
    go : (b : Bool) → ltb (position_or_len is_stray t) (length t) ≡ b → None ≡ stray_line 1 t
    go true f = absurd (none-some (position_or_len is_stray t) (sym e ∙ rw f refl))
    go false f = sym (stray_at 1 t ∙ rw f refl)

-- ---- the bytes other than spaces

module _ (t : List ℕ) (i : ℕ) where
  -- a space at i is left out
  pub dense_space : i < length t → get_or t i 0 ≡ space → without_spaces (drop i t) ≡ without_spaces (drop (i + 1) t)
  unfolding without_spaces
  dense_space h p = rw (drop-cons t i 0 h, add-one i) (rw (eq-eqb (get_or t i 0) space p, without_spaces))

  -- another byte stays
  pub dense_other :
      i < length t → (get_or t i 0 ≡ space → ⊥)
      → without_spaces (drop i t) ≡ get_or t i 0 ∷ without_spaces (drop (i + 1) t)
  unfolding without_spaces
  dense_other h p = rw (drop-cons t i 0 h, add-one i) (rw (ne_eqb (get_or t i 0) space p, without_spaces))

  -- no byte is left
  pub dense_past : length t ≤ i → without_spaces (drop i t) ≡ []
  unfolding without_spaces
  dense_past h = rw (drop_of_length-le t h)

-- ---- the copy in the buffer: the first n bytes are what was copied, and the bytes from place i on follow

module _ (t buffer : List ℕ) (i n : ℕ) where
  -- a byte other than a space is copied
  pub copied_other :
      (m : ℕ) → i < length t → n < length buffer → (get_or t i 0 ≡ space → ⊥) → m ≡ n + 1
      → take n buffer ++ without_spaces (drop i t) ≡ without_spaces t
      → take m (set buffer n (get_or t i 0)) ++ without_spaces (drop (i + 1) t) ≡ without_spaces t
  copied_other m h k p f whole =
      rw (f, add-one n, take-suc-set buffer n (get_or t i 0) k)
      (append_snoc (take n buffer) (get_or t i 0) (without_spaces (drop (i + 1) t))
      ∙ ap (λ (rest : List ℕ). take n buffer ++ rest) (sym (dense_other t i h p))
      ∙ whole)

  -- a space is written past what was copied
  pub copied-space :
      (m : ℕ) → i < length t → get_or t i 0 ≡ space → m ≡ n
      → take n buffer ++ without_spaces (drop i t) ≡ without_spaces t
      → take m (set buffer n (get_or t i 0)) ++ without_spaces (drop (i + 1) t) ≡ without_spaces t
  copied-space m h p f whole =
      rw (f, take-set-le n buffer n (get_or t i 0) (le_refl n))
      (ap (λ (rest : List ℕ). take n buffer ++ rest) (sym (dense_space t i h p)) ∙ whole)

  -- at the end of the text all was copied
  pub copied_all :
      length t ≤ i → n ≤ length buffer → take n buffer ++ without_spaces (drop i t) ≡ without_spaces t
      → Copied t n buffer
  copied_all h k whole =
      let d : take n buffer ≡ without_spaces t =
      sym (append-nil (take n buffer))
      ∙ ap (λ (rest : List ℕ). take n buffer ++ rest) (sym (dense_past t i h))
      ∙ whole in
      let e : n ≡ length (without_spaces t) = sym (length-take-le n buffer k) ∙ ap length d in
      record { counted = e; copied = rw (← e) d }

-- a text is not longer without its spaces
pub dense_short : (t : List ℕ) → length (without_spaces t) ≤ length t
unfolding without_spaces
dense_short [] = omega arith
dense_short (b ∷ bs) = go (eqb b space) (dense_short bs)
  where
    go :
        (f : Bool) → length (without_spaces bs) ≤ length bs
        → length {A = ℕ} (elim f [ true ↦ without_spaces bs | false ↦ b ∷ without_spaces bs ]) ≤ suc (length bs)
    go true h = omega arith
    go false h = omega arith
