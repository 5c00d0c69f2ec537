-- Laws of lines: how long the line at a place is, the lines from a place on, how many they are, and the empty ones at
-- the front. Assumes nothing.
use mathlib.Core.Path.{◌≡◌, refl, sym, ap, ◌∙◌, subst}
use mathlib.Core.Bool.{Bool, true, false, not, cond}
use mathlib.Core.List.{List, [], ◌∷◌, ◌++◌}
use Prim.Native.Nat.{ℕ, zero, suc, ◌+◌, ◌-◌, ◌*◌, ◌≤◌, ◌<◌}
use native.Mathlib.Nat.{not-suc-le-zero}
use native.Mathlib.Omega.{arith}
use mir.Val.{bool_byte}
use lib.Dec.{ltb, eqb}
use lib.ListN.{length, take, drop, get_or, replicate, drop_of_length-le, length-drop}
use lib.Seq.{drop-cons, drop-drop, get_or-drop}
use borrow.Author.Tests.{eq-eqb, ne_eqb, eqb-true, eqb-false, not-true, ltb-false}
use Rattle.aries.specs.Text.{line_feed, lines, into_first}
use Rattle.std.specs.List.{count_by, position, position_or_len, prefix_len}
use Rattle.std.specs.Prelude.{Option}
use Rattle.std.specs.Option.{unwrap_or}
use Rattle.std.specs.Simd.{first_chunks}
use Rattle.std.specs.Cmp.Lexicographic.{pointwise}
use Rattle.std.specs.Prelude.{nat_eq}
use Rattle.std.proofs.lemmas.List.Sums.{sum_by-cons, prefix_len-drop_yes, prefix_len-drop_no, prefix_len-drop_all, prefix_len-le-length, passes_at_first}
use Rattle.std.proofs.lemmas.Slice.Eq.{bytes_eq-Decides}
use Rattle.std.proofs.lemmas.List.{take-append-drop}
use Rattle.text.specs.Lines.{is_feed, is_other, ends_open, line_length, line_at, blanks}

-- ---- the first place that passes a test

-- `position` and then `unwrap_or` at the length give it, or the length
pub first_place :
    {X : Type 0} (p : X → Bool) (xs : List X) {found : Option ℕ} {n size : ℕ} → found ≡ position p xs → n ≡ unwrap_or found size → size ≡ length xs
    → n ≡ position_or_len p xs
first_place p xs {n = n} e u l = go (ltb (position_or_len p xs) (length xs)) refl
  where
    go : (b : Bool) → ltb (position_or_len p xs) (length xs) ≡ b → n ≡ position_or_len p xs
    go true f = rw (u, e, f) refl
    go false f = rw (u, e, f) (omega (arith, ltb-false (position_or_len p xs) (length xs) f, prefix_len-le-length (λ x. not (p x)) xs))

-- ---- a line

length_feed : (b : ℕ) (bs : List ℕ) → eqb b line_feed ≡ true → line_length (b ∷ bs) ≡ 0
unfolding line_length
length_feed b bs e = simp e

length_other : (b : ℕ) (bs : List ℕ) → eqb b line_feed ≡ false → line_length (b ∷ bs) ≡ suc (line_length bs)
unfolding line_length
length_other b bs e = simp e (omega arith)

-- it lies within the text
pub line-short : (t : List ℕ) → line_length t ≤ length t
unfolding line_length
line-short t = prefix_len-le-length is_other t

-- where it ends before the text does, a line feed stands
pub feed_after : (t : List ℕ) → line_length t < length t → get_or t (line_length t) 0 ≡ line_feed
unfolding line_length
feed_after t h = eqb-true (get_or t (line_length t) 0) line_feed (passes_at_first is_feed t 0 h)

module _ (t : List ℕ) (i : ℕ) where
  -- a line feed at i: the line there is empty
  pub line-ends : i < length t → get_or t i 0 ≡ line_feed → line_length (drop i t) ≡ 0
  unfolding line_length
  line-ends h e = prefix_len-drop_no is_other t i 0 h (ap not (eq-eqb (get_or t i 0) line_feed e))

  -- another byte at i: the line there is one byte longer than from the next place
  pub line-goes_on :
      i < length t → (get_or t i 0 ≡ line_feed → ⊥) → line_length (drop i t) ≡ suc (line_length (drop (i + 1) t))
  unfolding line_length
  line-goes_on h f = omega (arith, prefix_len-drop_yes is_other t i 0 h (ap not (ne_eqb (get_or t i 0) line_feed f)))

  -- no byte at i
  pub line-past : length t ≤ i → line_length (drop i t) ≡ 0
  unfolding line_length
  line-past h = prefix_len-drop_all is_other t i h

  -- the line from a place within the text ends within it
  pub line-inside : i ≤ length t → i + line_length (drop i t) ≤ length t
  line-inside h = omega (arith, line-short (drop i t), length-drop i t)

-- ---- the lines of a text

-- a line feed: an empty line, and the lines after it
lines_feed : (b : ℕ) (bs : List ℕ) → eqb b line_feed ≡ true → lines (b ∷ bs) ≡ [] ∷ lines bs
unfolding lines
lines_feed b bs e = rw (e, lines)

-- another byte belongs to the first line
lines_other : (b : ℕ) (bs : List ℕ) → eqb b line_feed ≡ false → lines (b ∷ bs) ≡ into_first b (lines bs)
unfolding lines
lines_other b bs e = rw (e, lines)

-- the first line, and the lines after its line feed
pub lines_cons :
    (b : ℕ) (bs : List ℕ)
    → lines (b ∷ bs) ≡ take (line_length (b ∷ bs)) (b ∷ bs) ∷ lines (drop (suc (line_length (b ∷ bs))) (b ∷ bs))
unfolding lines line_length
lines_cons b [] = go (eqb b line_feed) refl
  where
    go :
        (f : Bool) → eqb b line_feed ≡ f
        → lines (b ∷ []) ≡ take (line_length (b ∷ [])) (b ∷ []) ∷ lines (drop (suc (line_length (b ∷ []))) (b ∷ []))
    go true e = rw (lines_feed b [] e, length_feed b [] e)
    go false e = rw (lines_other b [] e, length_other b [] e)
lines_cons b (a ∷ bs) = go (eqb b line_feed) refl (lines_cons a bs)
  where
    go :
        (f : Bool) → eqb b line_feed ≡ f
        → lines (a ∷ bs) ≡ take (line_length (a ∷ bs)) (a ∷ bs) ∷ lines (drop (suc (line_length (a ∷ bs))) (a ∷ bs))
        → lines (b ∷ a ∷ bs)
        ≡ take (line_length (b ∷ a ∷ bs)) (b ∷ a ∷ bs) ∷ lines (drop (suc (line_length (b ∷ a ∷ bs))) (b ∷ a ∷ bs))
    go true e rest = rw (lines_feed b (a ∷ bs) e, length_feed b (a ∷ bs) e)
    go false e rest = rw (lines_other b (a ∷ bs) e, length_other b (a ∷ bs) e) (ap (into_first b) rest)

module _ (t : List ℕ) (i : ℕ) where
  -- below the length: the line at i, and the lines from the place after its line feed
  pub lines_at :
      i < length t
      → lines (drop i t) ≡ take (line_length (drop i t)) (drop i t) ∷ lines (drop (i + line_length (drop i t) + 1) t)
  lines_at h =
      let e : drop i t ≡ get_or t i 0 ∷ drop (suc i) t = drop-cons t i 0 h in
      let n : i + suc (line_length (drop i t)) ≡ i + line_length (drop i t) + 1 = omega arith in
      subst (λ (d : List ℕ). lines d ≡ take (line_length d) d ∷ lines (drop (suc (line_length d)) d)) (sym e)
      (lines_cons (get_or t i 0) (drop (suc i) t))
      ∙ ap (λ (d : List ℕ). take (line_length (drop i t)) (drop i t) ∷ lines d)
      (drop-drop (suc (line_length (drop i t))) i t ∙ ap (λ (k : ℕ). drop k t) n)

  -- from the end on there is none
  pub lines-past : length t ≤ i → lines (drop i t) ≡ []
  unfolding lines
  lines-past h = rw (drop_of_length-le t h)

-- ---- how many lines there are

-- a byte goes into the first line, if there is one
into_first_same : (b : ℕ) (ls : List (List ℕ)) → 1 ≤ length ls → length (into_first b ls) ≡ length ls
into_first_same b [] h = absurd (not-suc-le-zero h)
into_first_same b (l ∷ ls) h = refl

last_of_more : (b a : ℕ) (bs : List ℕ) → ends_open (b ∷ a ∷ bs) ≡ ends_open (a ∷ bs)
last_of_more b a bs =
    let m : suc (suc (length bs)) - 1 ≡ suc (length bs) = omega arith in
    let n : suc (length bs) - 1 ≡ length bs = omega arith in
    rw (m, n)

-- one for each line feed, and one that has none at its end
pub count_feeds_lines : (t : List ℕ) → length (lines t) ≡ count_by is_feed t + bool_byte (ends_open t)
unfolding lines
count_feeds_lines [] = refl
count_feeds_lines (b ∷ []) = go (eqb b line_feed) refl
  where
    go : (f : Bool) → eqb b line_feed ≡ f → length (lines (b ∷ [])) ≡ count_by is_feed (b ∷ []) + bool_byte (ends_open (b ∷ []))
    go true e = simp (lines_feed b [] e, e) (omega arith)
    go false e = simp (lines_other b [] e, e) (omega arith)
count_feeds_lines (b ∷ a ∷ bs) = go (eqb b line_feed) refl (count_feeds_lines (a ∷ bs))
  where
    go :
        (f : Bool) → eqb b line_feed ≡ f → length (lines (a ∷ bs)) ≡ count_by is_feed (a ∷ bs) + bool_byte (ends_open (a ∷ bs))
        → length (lines (b ∷ a ∷ bs)) ≡ count_by is_feed (b ∷ a ∷ bs) + bool_byte (ends_open (b ∷ a ∷ bs))
    go true e rest = rw (last_of_more b a bs, sum_by-cons (λ c. cond (is_feed c) 1 0) b (a ∷ bs), lines_feed b (a ∷ bs) e, e) (omega arith)
    go false e rest =
        let some : 1 ≤ length (lines (a ∷ bs)) = omega (arith, ap length (lines_cons a bs)) in
        let n = into_first_same b (lines (a ∷ bs)) some in
        rw (last_of_more b a bs, sum_by-cons (λ c. cond (is_feed c) 1 0) b (a ∷ bs), lines_other b (a ∷ bs) e, e) (omega arith)

count-into_first : (b : ℕ) (ls : List (List ℕ)) → length (into_first b ls) ≤ suc (length ls)
count-into_first b [] = omega arith
count-into_first b (l ∷ ls) = omega arith

-- no more lines than bytes
pub count_small : (t : List ℕ) → length (lines t) ≤ length t
unfolding lines
count_small [] = omega arith
count_small (b ∷ bs) = go (eqb b line_feed) refl (count_small bs)
  where
    go : (f : Bool) → eqb b line_feed ≡ f → length (lines bs) ≤ length bs → length (lines (b ∷ bs)) ≤ suc (length bs)
    go true e h = rw (lines_feed b bs e) (omega arith)
    go false e h = rw (lines_other b bs e) (omega (arith, count-into_first b (lines bs)))

-- ---- empty lines at the front

blanks_feed : (b : ℕ) (bs : List ℕ) → eqb b line_feed ≡ true → blanks (b ∷ bs) ≡ suc (blanks bs)
unfolding blanks
blanks_feed b bs e = simp e (omega arith)

pub blanks_other : (b : ℕ) (bs : List ℕ) → eqb b line_feed ≡ false → blanks (b ∷ bs) ≡ 0
unfolding blanks
blanks_other b bs e = simp e

-- they lie within the text
pub blanks-short : (t : List ℕ) → blanks t ≤ length t
unfolding blanks
blanks-short t = prefix_len-le-length (λ b. not (is_other b)) t

blanks_front : (n : ℕ) (t : List ℕ) → n ≤ blanks t → blanks t ≡ n + blanks (drop n t)
blanks_front zero t h = omega arith
blanks_front (suc n) [] h = absurd (omega (arith, blanks-short []))
blanks_front (suc n) (b ∷ bs) h = go (eqb b line_feed) refl (blanks_front n bs)
  where
    go : (f : Bool) → eqb b line_feed ≡ f → (n ≤ blanks bs → blanks bs ≡ n + blanks (drop n bs)) → blanks (b ∷ bs) ≡ suc n + blanks (drop n bs)
    go true e rest = omega (arith, h, blanks_feed b bs e, rest)
    go false e rest = absurd (omega (arith, h, blanks_other b bs e))

-- past n of those at i there are so many fewer
pub blanks-drop : (t : List ℕ) (i n : ℕ) → n ≤ blanks (drop i t) → blanks (drop i t) ≡ n + blanks (drop (i + n) t)
blanks-drop t i n h = blanks_front n (drop i t) h ∙ ap (λ (d : List ℕ). n + blanks d) (drop-drop n i t)

module _ (t : List ℕ) (i : ℕ) where
  -- a line feed at i: one empty line more
  pub blanks_go_on : i < length t → get_or t i 0 ≡ line_feed → blanks (drop i t) ≡ suc (blanks (drop (i + 1) t))
  unfolding blanks
  blanks_go_on h e = omega (arith, prefix_len-drop_yes (λ b. not (is_other b)) t i 0 h (ap (λ (b : Bool). not (not b)) (eq-eqb (get_or t i 0) line_feed e)))

  -- those from a place within the text end within it
  pub blanks-inside : i ≤ length t → i + blanks (drop i t) ≤ length t
  blanks-inside h = omega (arith, blanks-short (drop i t), length-drop i t)

-- Eight bytes are line feeds: there are so many more at the front, and else the text stays. So it is for as many chunks as are
-- passed.
abbrev pub is_passed : List ℕ → Bool
is_passed eight = pointwise nat_eq eight (replicate 8 line_feed)

eight_blanks : (t : List ℕ) → is_passed (take 8 t) ≡ true → blanks t ≡ 8 + blanks (drop 8 t)
unfolding blanks
eight_blanks t e =
    let feeds : take 8 t ≡ replicate 8 line_feed = (bytes_eq-Decides (take 8 t) (replicate 8 line_feed)).0 e in
    ap blanks (sym (take-append-drop 8 t) ∙ ap (λ (eight : List ℕ). eight ++ drop 8 t) feeds) ∙ omega arith

pub blanks-chunks :
    (k : ℕ) (t : List ℕ)
    → blanks t ≡ 8 * prefix_len is_passed (first_chunks 8 k t) + blanks (drop (8 * prefix_len is_passed (first_chunks 8 k t)) t)
blanks-chunks zero t = omega arith
blanks-chunks (suc k) t = go (is_passed (take 8 t)) refl (blanks-chunks k (drop 8 t))
  where
    passed : ℕ
    passed = prefix_len is_passed (first_chunks 8 k (drop 8 t))

    go :
        (p : Bool) → is_passed (take 8 t) ≡ p → blanks (drop 8 t) ≡ 8 * passed + blanks (drop (8 * passed) (drop 8 t))
        → blanks t ≡ 8 * cond p (1 + passed) 0 + blanks (drop (8 * cond p (1 + passed) 0) t)
    go true e rest =
        let n : 8 + 8 * passed ≡ 8 * (1 + passed) = omega arith in
        let d : drop (8 * passed) (drop 8 t) ≡ drop (8 * (1 + passed)) t = drop-drop (8 * passed) 8 t ∙ ap (λ (k : ℕ). drop k t) n in
        omega (arith, eight_blanks t e, rest, ap blanks d)
    go false e rest = omega arith

passed_not : (eights : List (List ℕ)) → prefix_len (λ eight. not (not (is_passed eight))) eights ≡ prefix_len is_passed eights
passed_not [] = refl
passed_not (e ∷ es) = go (is_passed e) (passed_not es)
  where
    go :
        (p : Bool) → prefix_len (λ eight. not (not (is_passed eight))) es ≡ prefix_len is_passed es
        → cond (not (not p)) (1 + prefix_len (λ eight. not (not (is_passed eight))) es) 0 ≡ cond p (1 + prefix_len is_passed es) 0
    go true rest = ap (λ (n : ℕ). 1 + n) rest
    go false rest = refl

-- where n is the first place of a chunk with another byte
pub blanks_passed : (k n : ℕ) (t : List ℕ) → n ≡ position_or_len (λ eight. not (is_passed eight)) (first_chunks 8 k t) → blanks t ≡ 8 * n + blanks (drop (8 * n) t)
blanks_passed k n t e =
    let same : n ≡ prefix_len is_passed (first_chunks 8 k t) = e ∙ passed_not (first_chunks 8 k t) in
    rw same (blanks-chunks k t)

-- the lines of a body: so many empty ones, and those from its first block on
pub lines-blanks : (t : List ℕ) → lines t ≡ replicate (blanks t) [] ++ lines (drop (blanks t) t)
unfolding lines blanks
lines-blanks [] = refl
lines-blanks (b ∷ bs) = go (eqb b line_feed) refl (lines-blanks bs)
  where
    go :
        (f : Bool) → eqb b line_feed ≡ f → lines bs ≡ replicate (blanks bs) [] ++ lines (drop (blanks bs) bs)
        → lines (b ∷ bs) ≡ replicate (blanks (b ∷ bs)) [] ++ lines (drop (blanks (b ∷ bs)) (b ∷ bs))
    go true e rest = rw (lines_feed b bs e, blanks_feed b bs e) (ap (λ (ls : List (List ℕ)). [] ∷ ls) rest)
    go false e rest = rw (blanks_other b bs e)

-- where the next block starts there is no line feed
pub next-stop :
    (t : List ℕ) (from next : ℕ) → next ≡ from + blanks (drop from t) → next < length t → get_or t next 0 ≡ line_feed → ⊥
unfolding blanks
next-stop t from next e h f =
    let d : List ℕ = drop from t in
    let k : blanks d < length d = simp length-drop (omega arith) in
    eqb-false (get_or d (blanks d) 0) line_feed (not-true (is_feed (get_or d (blanks d) 0)) (passes_at_first is_other d 0 k))
    (get_or-drop from t (blanks d) 0 ∙ ap (λ (n : ℕ). get_or t n 0) (sym e) ∙ f)

-- ---- The first byte of a line

-- A blank line starts with no byte and stands where the text has a line feed: a test that fails of both is alike of the
-- line and of the text.
pub first_byte :
    (test : ℕ → Bool) → test 0 ≡ false → test line_feed ≡ false → (t : List ℕ) (at : ℕ) → at < length t
    → test (get_or (line_at t at) 0 0) ≡ test (get_or t at 0)
first_byte test none feed t at h = go (eqb (get_or t at 0) line_feed) refl
  where
    go : (b : Bool) → eqb (get_or t at 0) line_feed ≡ b → test (get_or (line_at t at) 0 0) ≡ test (get_or t at 0)
    go true e =
        let f : get_or t at 0 ≡ line_feed = eqb-true (get_or t at 0) line_feed e in
        rw (line-ends t at h f, f) (none ∙ sym feed)
    go false e = rw (line-goes_on t at h (eqb-false (get_or t at 0) line_feed e), drop-cons t at 0 h)
