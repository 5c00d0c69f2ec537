-- Laws of counting: where no letter stands twice, the letters of a block fit those of its kind exactly when the counts do.
-- Assumes nothing.
use Rattle.std.specs.Prelude.{None, Some, is_some, count_by}
use Rattle.std.proofs.lemmas.List.Recursion.{is_count_by}
use mathlib.Core.Path.{◌≡◌, refl, ap, ◌∙◌}
use mathlib.Core.Bool.{Bool, true, false, not, cond, ◌&&◌, ◌||◌, and-true}
use mathlib.Core.List.{List, [], ◌∷◌, ◌++◌, append-nil, append_assoc}
use Prim.Native.Nat.{ℕ, zero, suc, ◌+◌, ◌-◌, ◌≤◌, ◌<◌}
use native.Mathlib.Nat.{zero-add, add-zero, add_left_comm, not-suc-le-zero}
use native.Mathlib.Omega.{arith}
use lib.Dec.{leb, eqb}
use lib.ListN.{length, set, length-set}
use lib.Seq.{get_or-set_same, get_or-set_other}
use borrow.Author.Tests.{not-true, eqb-true, eqb-false, ne_eqb, leb-true, le-leb}
use Rattle.signed.proofs.Tests.{and_left, and_right}
use Rattle.aries.specs.declared.word.Word.{Word}
use Rattle.aries.specs.declared.reader.Given.{Given}
use Rattle.aries.specs.declared.block.Kind.{Kind}
use Rattle.aries.specs.declared.block.Kind.TheVariants.{G26, G28, G29, G36, G37, G50, G70, G72, G75, G76, G92, G93, G98, Position, Lone, LetterM, LetterB, LetterU, LetterV, LetterW, G66, G73}
use Rattle.aries.specs.Letters.{letter_g, letter_n, index_of}
use Rattle.aries.specs.Test.{among, every, any_of}
use Rattle.aries.specs.Text.{bytes, is_capital}
use Rattle.aries.specs.Words.{LetterWord}
use Rattle.aries.specs.ByLetter.{Letters, has, by_letter}
use Rattle.aries.specs.Forms.{in_place, in_place_after, in_places, stands_once, form_of, listed, other_letters, is_listed_or_absent, letters_fit, kind_fits, beside_fits, is_listed}
use Rattle.words.specs.Line.{others_in, line_of}
use Rattle.words.proofs.Bytes.{capital_low, capital_high}
use Rattle.words.proofs.Word.{WellFormed}
use Rattle.words.proofs.ByLetter.{by_letter_g, by_letter-set}
use Rattle.words.proofs.Adding.{others_more}
use Rattle.words.proofs.Gathering.{AllFormed, same_test}
use Rattle.words.specs.declared.Line.{Line}
use Rattle.blocks.specs.Counting.{passing, present, counts_fit, form_counts, is_counted}

-- ---- Counts and tests

module _ (t u : ℕ → Bool) where
  -- by a second test
  passing-split :
      (ls : List ℕ) → passing t ls ≡ passing (λ (l : ℕ). u l && t l) ls + passing (λ (l : ℕ). not (u l) && t l) ls
  passing-split [] = refl
  passing-split (l ∷ ls) = go (u l) (passing-split ls)
    where
      go :
          (b : Bool) → passing t ls ≡ passing (λ (l : ℕ). u l && t l) ls + passing (λ (l : ℕ). not (u l) && t l) ls
          → passing t (l ∷ ls)
          ≡ cond (b && t l) 1 0 + passing (λ (l : ℕ). u l && t l) ls + (cond (not b && t l) 1 0 + passing (λ (l : ℕ). not (u l) && t l) ls)
      go true rest = omega arith
      go false rest = omega arith

  -- none pass the first alone
  passing_none : (ls : List ℕ) → eqb (passing (λ (l : ℕ). not (u l) && t l) ls) 0 ≡ every (λ (l : ℕ). not (t l) || u l) ls
  passing_none [] = refl
  passing_none (l ∷ ls) = go (u l) (t l) (passing_none ls)
    where
      n : ℕ
      n = passing (λ (l : ℕ). not (u l) && t l) ls

      go : (b c : Bool) {e : Bool} → eqb n 0 ≡ e → eqb (cond (not b && c) 1 0 + n) 0 ≡ ((not c || b) && e)
      go true true rest = rw zero-add rest
      go true false rest = rw zero-add rest
      go false true rest = ne_eqb (1 + n) 0 (λ e. omega arith)
      go false false rest = rw zero-add rest

passing-append : (t : ℕ → Bool) (ks ls : List ℕ) → passing t (ks ++ ls) ≡ passing t ks + passing t ls
passing-append t [] ls = omega arith
passing-append t (k ∷ ks) ls = omega (arith, passing-append t ks ls)

passing-all : (ls : List ℕ) → passing (λ (l : ℕ). true) ls ≡ length ls
passing-all [] = refl
passing-all (l ∷ ls) = omega (arith, passing-all ls)

-- as std counts
pub passing-count : (t : ℕ → Bool) (ls : List ℕ) → passing t ls ≡ count_by t ls
passing-count t ls = is_count_by (passing t) t refl step ls
  where
    step : (l : ℕ) (ls : List ℕ) → passing t (l ∷ ls) ≡ cond (t l) (1 + passing t ls) (passing t ls)
    step l ls = go (t l)
      where
        go : (b : Bool) → cond b 1 0 + passing t ls ≡ cond b (1 + passing t ls) (passing t ls)
        go true = refl
        go false = zero-add (passing t ls)

module _ (t : ℕ → Bool) where
  -- all pass
  passing-every : (ls : List ℕ) → eqb (passing t ls) (length ls) ≡ every t ls
  passing-every ls =
      let split : passing (λ (l : ℕ). true) ls ≡ passing t ls + passing (λ (l : ℕ). not (t l) && true) ls =
      passing-split (λ (l : ℕ). true) t ls ∙ simp and-true in
      same_test (passing t ls) (length ls) (passing (λ (l : ℕ). not (t l) && true) ls) 0
      (λ e. omega (arith, passing-all ls))
      (λ e. omega (arith, passing-all ls))
      ∙ passing_none (λ (l : ℕ). true) t ls

  -- one passes
  passing_any : (ls : List ℕ) → leb 1 (passing t ls) ≡ any_of t ls
  passing_any [] = refl
  passing_any (l ∷ ls) = go (t l) (passing_any ls)
    where
      go : (b : Bool) → leb 1 (passing t ls) ≡ any_of t ls → leb 1 (cond b 1 0 + passing t ls) ≡ (b || any_of t ls)
      go true rest = le-leb 1 (1 + passing t ls) (omega arith)
      go false rest = rw zero-add rest

-- ---- The letters of a kind

module _ (w : Letters) where
  -- they are letters besides N and G, and no one is listed twice
  listed_once : (k : Kind) → passing (λ (l : ℕ). among (listed (form_of k)) l && has w l) other_letters ≡ present w (listed (form_of k))
  unfolding bytes other_letters
  listed_once G26 = simp (zero-add, add_left_comm)
  listed_once G28 = simp (zero-add, add_left_comm)
  listed_once G29 = simp (zero-add, add_left_comm)
  listed_once G36 = simp (zero-add, add_left_comm)
  listed_once G37 = simp (zero-add, add_left_comm)
  listed_once G66 = simp (zero-add, add_left_comm)
  listed_once G50 = refl
  listed_once G70 = simp (zero-add, add_left_comm)
  listed_once G72 = simp zero-add
  listed_once G73 = simp (zero-add, add_left_comm)
  listed_once G75 = simp (zero-add, add_left_comm)
  listed_once G76 = simp (zero-add, add_left_comm)
  listed_once G92 = simp zero-add
  listed_once G93 = simp zero-add
  listed_once G98 = simp (zero-add, add_left_comm)
  listed_once Position = simp (zero-add, add_left_comm)
  listed_once Lone = refl
  listed_once LetterM = simp zero-add
  listed_once LetterB = simp zero-add
  listed_once LetterU = simp zero-add
  listed_once LetterV = simp zero-add
  listed_once LetterW = simp zero-add

  -- as many words as listed letters: no letter but the listed ones
  count-others :
      (k : Kind)
      → eqb (present w other_letters) (present w (listed (form_of k))) ≡ every (is_listed_or_absent w (form_of k)) other_letters
  count-others k =
      let t : ℕ → Bool = among (listed (form_of k)) in
      let split = passing-split (has w) t other_letters in
      same_test (present w other_letters) (present w (listed (form_of k))) (passing (λ (l : ℕ). not (t l) && has w l) other_letters) 0
      (λ e. omega (arith, split, listed_once k))
      (λ e. omega (arith, split, listed_once k))
      ∙ passing_none (has w) t other_letters

  -- where the words besides N and G are as many as these letters
  count_fits_lem : (l : Line) (k : Kind) → l.words.letters ≡ w → l.others ≡ present w other_letters → form_counts l (form_of k) ≡ letters_fit w (form_of k)
  unfolding counts_fit letters_fit
  count_fits_lem l k e f =
      let must = bytes (form_of k).must in
      let one_of = bytes (form_of k).one_of in
      let may = bytes (form_of k).may in
      simp (
        e,
        f,
        ← passing-append (has w) one_of may,
        ← passing-append (has w) must (one_of ++ may),
        passing-every (has w) must,
        passing_any (has w) one_of,
        count-others k,
      )

-- ---- Words that are counted

-- what holds of every number below a bound, by a test of each
abbrev all_below : (ℕ → Bool) → ℕ → Bool
all_below t zero = true
all_below t (suc n) = t n && all_below t n

below : (t : ℕ → Bool) (n : ℕ) → all_below t n ≡ true → (i : ℕ) → i < n → t i ≡ true
below t zero e i h = absurd (not-suc-le-zero h)
below t (suc n) e i h = go (eqb i n) refl (below t n (and_right (t n) (all_below t n) e) i)
  where
    go : (b : Bool) → eqb i n ≡ b → (i < n → t i ≡ true) → t i ≡ true
    go true f rest = rw (eqb-true i n f) (and_left (t n) (all_below t n) e)
    go false f rest = let ne = eqb-false i n f in rest (omega arith)

-- a letter stands once among those besides N and G, or is one of these
abbrev times : ℕ → ℕ
times l = passing (λ (m : ℕ). eqb m l) other_letters

abbrev due : ℕ → ℕ
due l = cond (among (letter_n ∷ letter_g ∷ []) l) 0 1

abbrev is_once : ℕ → Bool
is_once i = eqb (times (i + 65)) (due (i + 65))

all_once : all_below is_once 26 ≡ true
unfolding other_letters
all_once = refl

capital_once : (l : ℕ) → is_capital l ≡ true → times l ≡ due l
capital_once l c =
    let low = capital_low l c in
    let e : l - 65 + 65 ≡ l = omega arith in
    rw e at (eqb-true (times (l - 65 + 65)) (due (l - 65 + 65)) (below is_once 26 all_once (l - 65) (omega (arith, capital_high l c))))

-- a word is set in its place
module _
    (w : Letters) (l : ℕ) (v : Word) (all : length w ≡ 26) (c : is_capital l ≡ true) (new : has w l ≡ false)
  where
    abbrev with_word : Letters
    with_word = set w (index_of l) (Some v)

    has_same : has with_word l ≡ true
    has_same = ap is_some (get_or-set_same w (index_of l) (Some v) None (omega (arith, capital_high l c)))

    has_other : (m : ℕ) → 65 ≤ m → (m ≡ l → ⊥) → has with_word m ≡ has w m
    has_other m h ne = ap is_some (get_or-set_other w (index_of l) (index_of m) (Some v) None (λ f. ne (omega (arith, capital_low l c))))

    present-set :
        (ls : List ℕ) → every (leb 65) ls ≡ true → present with_word ls ≡ present w ls + passing (λ (m : ℕ). eqb m l) ls
    present-set [] h = refl
    present-set (m ∷ ls) h = go (eqb m l) refl (present-set ls (and_right (leb 65 m) (every (leb 65) ls) h))
      where
        go :
            (b : Bool) → eqb m l ≡ b → present with_word ls ≡ present w ls + passing (λ (m : ℕ). eqb m l) ls
            → present with_word (m ∷ ls) ≡ present w (m ∷ ls) + (cond b 1 0 + passing (λ (m : ℕ). eqb m l) ls)
        go true e rest = simp (eqb-true m l e, has_same, new) (omega arith)
        go false e rest =
            let same = has_other m (leb-true 65 m (and_left (leb 65 m) (every (leb 65) ls) h)) (eqb-false m l e) in
            rw same (omega arith)

-- words counted right: as many besides N and G as letters
abbrev Counted : List LetterWord → Type 0
Counted ws = (length (by_letter ws).letters ≡ 26) × (others_in ws ≡ present (by_letter ws).letters other_letters)

-- a word in its place has a letter of its own, unless it is a G
new_letter :
    (ws : List LetterWord) (r : LetterWord) → in_place ws r ≡ true → eqb r.letter letter_g ≡ false
    → has (by_letter ws).letters r.letter ≡ false
unfolding in_place
new_letter ws r p e =
    not-true (has (by_letter ws).letters r.letter) (rw e at (and_left (stands_once ws r) _ p))

-- the letters besides N and G are capitals
others_capital : every (leb 65) other_letters ≡ true
unfolding other_letters
others_capital = refl

-- a word more, in its place
counted_more :
    (ws : List LetterWord) (r : LetterWord) → WellFormed r → in_place ws r ≡ true → Counted ws → Counted (ws ++ r ∷ [])
counted_more ws r f p n = go (eqb r.letter letter_g) refl
  where
    go : (g : Bool) → eqb r.letter letter_g ≡ g → Counted (ws ++ r ∷ [])
    go true e =
        let g : r.letter ≡ letter_g = eqb-true r.letter letter_g e in
        rw (by_letter_g ws r g) (n.0, others_more ws r ∙ simp (g, add-zero) n.1)
    go false e =
        let g = eqb-false r.letter letter_g e in
        let v : Letters = (by_letter ws).letters in
        let new = new_letter ws r p e in
        rw (by_letter-set ws r g) (
          length-set v (index_of r.letter) (Some r.word) ∙ n.0,
          others_more ws r
              ∙ omega (arith, n.1, present-set v r.letter r.word n.0 f.capital new other_letters others_capital, capital_once r.letter f.capital),
        )

after-counted :
    (before ws : List LetterWord) → AllFormed ws → in_place_after before ws ≡ true → Counted before → Counted (before ++ ws)
unfolding in_place_after
after-counted before [] f p n = rw (append-nil before) n
after-counted before (r ∷ rs) f p n =
    rw append_assoc at
    (after-counted (before ++ r ∷ []) rs f.1 (and_right (in_place before r) (in_place_after (before ++ r ∷ []) rs) p)
    (counted_more before r f.0 (and_left (in_place before r) (in_place_after (before ++ r ∷ []) rs) p) n))

none_counted : Counted []
unfolding by_letter other_letters
none_counted = (refl, refl)

-- the words of a block, each in its place
pub all-counted : (ws : List LetterWord) → AllFormed ws → in_places ws ≡ true → others_in ws ≡ present (by_letter ws).letters other_letters
unfolding in_places
all-counted ws f p = (after-counted [] ws f p none_counted).1

-- ---- Refusal 5

-- a block is refused by counting where it is by the definition
pub is_counted_lem :
    (given : Given) (ws : List LetterWord) (k : Kind) → AllFormed ws
    → is_counted given (line_of ws) k ≡ (in_places ws && is_listed given (by_letter ws) k)
unfolding is_counted is_listed line_of in_places counts_fit
is_counted_lem given ws k f = go (in_places ws) refl
  where
    go : (p : Bool) → in_places ws ≡ p → is_counted given (line_of ws) k ≡ (in_places ws && is_listed given (by_letter ws) k)
    go false p = simp p
    go true p =
        let counts : form_counts (line_of ws) (form_of k) ≡ letters_fit (by_letter ws).letters (form_of k) =
        count_fits_lem (by_letter ws).letters (line_of ws) k refl (all-counted ws f p) in
        simp p (ap (λ (t : Bool). kind_fits given (by_letter ws).letters k && (beside_fits (by_letter ws).measure (form_of k).beside && t)) counts)
