-- Laws of the first line of a text: its bytes and those of the text pass the same tests, so that what is read of the one
-- is read of the other.
-- Assumes nothing.
use Rattle.std.specs.Prelude.{None, Some, Option}
use Rattle.std.specs.Option.{option_map_or}
use Rattle.std.specs.Slice.{IsItemAt}
use denote.Ref.{Bor}
use mathlib.Core.Path.{◌≡◌, refl, sym, ap, ◌∙◌}
use mathlib.Core.Bool.{Bool, true, false, cond}
use mathlib.Core.List.{List, [], ◌∷◌}
use Prim.Native.Nat.{ℕ, zero, suc, ◌+◌, ◌-◌, ◌*◌, ◌≤◌, ◌<◌}
use native.Mathlib.Omega.{arith}
use lib.Dec.{eqb, ltb, lit<}
use lib.ListN.{length, drop, get_or, get_or-eq_default}
use lib.Seq.{length-take-le, get_or-take}
use borrow.Author.Tests.{eqb-true, eqb-false, ltb-true, ltb-false, ne_eqb}
use Rattle.aries.specs.Text.{line_feed, point, is_capital, is_digit}
use Rattle.aries.specs.Words.{Digits, digits, is_sign, front_size, word}
use Rattle.text.specs.Lines.{is_feed, line_length}
use Rattle.text.proofs.Lines.{line-ends, line-goes_on, line-past, line-short, feed_after}
use Rattle.words.specs.declared.Number.{Number}
use Rattle.words.specs.Line.{first_line}
use Rattle.words.specs.Reading.{number_of, number}
use Rattle.words.proofs.Bytes.{test_inside, front_inside}
use Rattle.words.proofs.Numerals.{digits_bounded}
use Rattle.words.proofs.Word.{read_of, word_number}

-- it has as many bytes as stand before the line feed
pub line-length : (bs : List ℕ) → length (first_line bs) ≡ line_length bs
line-length bs = length-take-le (line_length bs) bs (line-short bs)

-- its part from a place on is the first line from there
pub line-drop : (k : ℕ) (bs : List ℕ) → k ≤ line_length bs → drop k (first_line bs) ≡ first_line (drop k bs)
unfolding line_length
line-drop zero bs h = refl
line-drop (suc k) [] h = refl
line-drop (suc k) (b ∷ bs) h = go (eqb b line_feed) refl (line-drop k bs)
  where
    go :
        (f : Bool) → eqb b line_feed ≡ f → (k ≤ line_length bs → drop k (first_line bs) ≡ first_line (drop k bs))
        → drop (suc k) (first_line (b ∷ bs)) ≡ first_line (drop k bs)
    go true e rest = absurd (omega (arith, line-ends (b ∷ bs) 0 (omega arith) (eqb-true b line_feed e)))
    go false e rest =
        let n : line_length (b ∷ bs) ≡ suc (line_length bs) =
        line-goes_on (b ∷ bs) 0 (omega arith) (eqb-false b line_feed e) in
        rw n (rest (omega arith))

-- it is empty where a line feed stands
pub line-empty :
    (t : List ℕ) (i : ℕ) → i < length t → eqb (line_length (drop i t)) 0 ≡ is_feed (get_or t i 0)
line-empty t i h = go (is_feed (get_or t i 0)) refl
  where
    go : (f : Bool) → is_feed (get_or t i 0) ≡ f → eqb (line_length (drop i t)) 0 ≡ f
    go true e = rw (line-ends t i h (eqb-true (get_or t i 0) line_feed e))
    go false e = rw (line-goes_on t i h (eqb-false (get_or t i 0) line_feed e)) (ne_eqb (suc (line_length (drop (i + 1) t))) 0 (λ z. omega arith))

-- and past the end of the text: by the byte that is read there, if there is one
pub line_end_told :
    (t : List ℕ) (i : ℕ) (r : Option (Bor ℕ)) → IsItemAt t i r
    → eqb (line_length (drop i t)) 0 ≡ option_map_or (λ (b : Bor ℕ). is_feed b.now) r true
line_end_told t i None e = rw (line-past t i e.3)
line_end_told t i (Some b) e = line-empty t i e.3.0 ∙ sym (ap is_feed (e.4 (omega arith) 0))

-- a byte of the line, or the one behind it, and the byte of the text there, for what does not tell a line feed from the
-- end of the text
pub line_byte :
    {A : Type 0} (f : ℕ → A) (bs : List ℕ) (k : ℕ) → f line_feed ≡ f 0 → k ≤ line_length bs
    → f (get_or (first_line bs) k 0) ≡ f (get_or bs k 0)
line_byte f bs k e h = inside (ltb k (line_length bs)) refl
  where
    behind : line_length bs ≡ k → (t : Bool) → ltb k (length bs) ≡ t → f 0 ≡ f (get_or bs k 0)
    behind n true g =
        sym (ap f (ap (λ (i : ℕ). get_or bs i 0) (sym n) ∙ feed_after bs (omega (arith, ltb-true k (length bs) g))) ∙ e)
    behind n false g = ap f (sym (get_or-eq_default bs 0 (ltb-false k (length bs) g)))

    inside : (t : Bool) → ltb k (line_length bs) ≡ t → f (get_or (first_line bs) k 0) ≡ f (get_or bs k 0)
    inside true g = ap f (get_or-take (line_length bs) bs k 0 (ltb-true k (line_length bs) g))
    inside false g =
        let n : line_length bs ≡ k = omega (arith, ltb-false k (line_length bs) g) in
        ap f (get_or-eq_default (first_line bs) 0 (omega (arith, line-length bs)))
        ∙ behind n (ltb k (length bs)) refl

-- digits end before a line feed
line-digits : (n value count : ℕ) (bs : List ℕ) → digits n value count (first_line bs) ≡ digits n value count bs
unfolding line_length digits
line-digits zero value count bs = refl
line-digits (suc n) value count [] = refl
line-digits (suc n) value count (b ∷ bs) =
    go (eqb b line_feed) refl (line-digits n (value * 10 + (b - 48)) (suc count) bs)
  where
    go :
        (f : Bool) → eqb b line_feed ≡ f
        → digits n (value * 10 + (b - 48)) (suc count) (first_line bs)
        ≡ digits n (value * 10 + (b - 48)) (suc count) bs
        → digits (suc n) value count (first_line (b ∷ bs)) ≡ digits (suc n) value count (b ∷ bs)
    go true e rest = rw (eqb-true b line_feed e)
    go false e rest =
        rw (line-goes_on (b ∷ bs) 0 (omega arith) (eqb-false b line_feed e))
        (ap (λ (d : Digits). elim (is_digit b) [ true ↦ d | false ↦ record { value = value; count = count } ]) rest)

-- ---- the number and the word at the front

-- a number ends before a line feed
line-number : (bs : List ℕ) → number (first_line bs) ≡ number bs
unfolding number
line-number bs =
    line_byte (λ (b : ℕ). number_of w b (digits 2 0 0 (drop (w.count + 1) line))) bs w.count refl within
    ∙ behind (eqb (get_or bs w.count 0) point) refl
    ∙ ap followed (line-digits 6 0 0 bs)
  where
    line : List ℕ
    line = first_line bs

    w : Digits
    w = digits 6 0 0 (first_line bs)

    -- with what follows in the text
    followed : Digits → Option Number
    followed v = number_of v (get_or bs v.count 0) (digits 2 0 0 (drop (v.count + 1) bs))

    within : w.count ≤ line_length bs
    within = omega (arith, (digits_bounded 6 0 0 (first_line bs) (lit< tt)).inside, line-length bs)

    behind :
        (t : Bool) → eqb (get_or bs w.count 0) point ≡ t
        → number_of w (get_or bs w.count 0) (digits 2 0 0 (drop (w.count + 1) line)) ≡ followed w
    behind true e =
        let p : eqb (get_or line w.count 0) point ≡ true =
        line_byte (λ (b : ℕ). eqb b point) bs w.count refl within ∙ e in
        let h : w.count < line_length bs =
        omega (arith, test_inside (λ (b : ℕ). eqb b point) line w.count refl p, line-length bs) in
        ap (number_of w (get_or bs w.count 0))
        (ap (digits 2 0 0) (line-drop (w.count + 1) bs (omega arith)) ∙ line-digits 2 0 0 (drop (w.count + 1) bs))
    behind false e = simp e

-- a word has no line feed: that of the line is that of the text
pub line_word : (bs : List ℕ) → word (first_line bs) ≡ word bs
line_word bs = go (is_capital (get_or bs 0 0)) refl
  where
    line : List ℕ
    line = first_line bs

    same : is_capital (get_or line 0 0) ≡ is_capital (get_or bs 0 0)
    same = line_byte is_capital bs 0 refl (omega arith)

    go : (t : Bool) → is_capital (get_or bs 0 0) ≡ t → word line ≡ word bs
    go false e = rw (word_number line, word_number bs) (simp (same, e))
    go true e =
        let h : 0 < line_length bs = omega (arith, test_inside is_capital line 0 refl (same ∙ e), line-length bs) in
        let f : front_size line ≡ front_size bs = line_byte (λ (b : ℕ). cond (is_sign b) 2 1) bs 1 refl (omega arith) in
        let k : front_size bs ≤ line_length bs = omega (arith, f, front_inside line 0 (front_size line) (same ∙ e) refl, line-length bs) in
        word_number line
        ∙ rw (get_or-take (line_length bs) bs 0 0 h)
        (line_byte (λ (b : ℕ). read_of (get_or bs 0 0) b (cond (is_sign b) 2 1) (number (drop (cond (is_sign b) 2 1) line))) bs 1 refl (omega arith))
        ∙ ap (read_of (get_or bs 0 0) (get_or bs 1 0) (front_size bs))
        (ap number (line-drop (front_size bs) bs k) ∙ line-number (drop (front_size bs) bs))
        ∙ sym (word_number bs)
