-- Laws of `words` and `formed_words`: the words of a line one by one, and what the code answers of them.
-- Assumes nothing.
use Rattle.std.specs.Prelude.{None, Some, Option, Ok, Err, is_some}
use mathlib.Core.Path.{◌≡◌, refl, sym, ap, ◌∙◌}
use mathlib.Core.Bool.{Bool, true, false, cond}
use mathlib.Core.List.{List, [], ◌∷◌, ◌++◌, append-nil}
use Prim.Native.Nat.{ℕ, suc, ◌+◌, ◌-◌, ◌≤◌}
use native.Mathlib.Omega.{arith}
use lib.Dec.{eqb}
use lib.ListN.{length, drop, length-drop}
use lib.Seq.{drop-drop, append_snoc}
use borrow.Author.Tests.{eqb-true, eqb-false, eq-eqb, ne_eqb}
use Rattle.aries.specs.Words.{LetterWord, word, front_words, formed_words, size_of, words}
use Rattle.aries.proofs.Words.{front_none, front_some, AllWords, front_all}
use Rattle.text.specs.Lines.{line_length}
use Rattle.words.specs.declared.Malformed.{Malformed}
use Rattle.words.specs.Line.{first_line, ended}
use Rattle.words.proofs.Word.{Formed, formed, WellFormed, well_formed}
use Rattle.words.proofs.FirstLine.{line-length, line-drop, line_word}

sizes_more : (ws : List LetterWord) (r : LetterWord) → size_of (ws ++ r ∷ []) ≡ size_of ws + r.size
sizes_more [] r = omega arith
sizes_more (w ∷ ws) r = omega (arith, sizes_more ws r)

-- ---- All words

-- tests of equality that go alike
pub same_test : (a b c d : ℕ) → (a ≡ b → c ≡ d) → (c ≡ d → a ≡ b) → eqb a b ≡ eqb c d
same_test a b c d f g = go (eqb c d) refl
  where
    go : (t : Bool) → eqb c d ≡ t → eqb a b ≡ t
    go true e = eq-eqb a b (g (eqb-true c d e))
    go false e = ne_eqb a b (λ h. eqb-false c d e (f h))

some-if : {A : Type 0} (t : Bool) (a : A) → is_some (cond t (Some a) None) ≡ t
some-if true a = refl
some-if false a = refl

all_formed : (line : List ℕ) → is_some (words line) ≡ eqb (size_of (formed_words line)) (length line)
unfolding words
all_formed line = some-if (eqb (size_of (formed_words line)) (length line)) (formed_words line)

-- words that were read
abbrev pub AllFormed : List LetterWord → Type 0
AllFormed ws = AllWords WellFormed ws

pub front_formed : (n : ℕ) (bs : List ℕ) → AllFormed (front_words n bs)
front_formed n bs = front_all WellFormed well_formed n bs

-- ---- The words of a line, read in a text

-- The words before a place of the line, and then those from there on, are those of the line; how many suffice for them;
-- and the bytes of both.
pub record Goes (t : List ℕ) (from at : ℕ) (before : List LetterWord) : Type 0 where
  pub most : ℕ
  pub enough : line_length (drop at t) ≤ most
  pub same : formed_words (first_line (drop from t)) ≡ before ++ front_words most (first_line (drop at t))
  pub here : at ≡ from + size_of before
  pub left : line_length (drop from t) ≡ size_of before + line_length (drop at t)

pub goes-start : (t : List ℕ) (from : ℕ) → Goes t from from []
goes-start t from =
    record {
      most = length (first_line (drop from t));
      enough = omega (arith, line-length (drop from t));
      same = refl;
      here = omega arith;
      left = omega arith;
    }

module _ (t : List ℕ) (from at : ℕ) (before : List LetterWord) (g : Goes t from at before) where
  -- a word follows
  pub goes_some : (r : LetterWord) → word (drop at t) ≡ Some r → Goes t from (at + r.size) (before ++ r ∷ [])
  goes_some r e =
      let line : List ℕ = first_line (drop at t) in
      let found : word line ≡ Some r = line_word (drop at t) ∙ e in
      let f : Formed line r = formed line r found in
      let size : length line ≡ line_length (drop at t) = line-length (drop at t) in
      let rest : drop r.size line ≡ first_line (drop (at + r.size) t) =
      line-drop r.size (drop at t) (omega arith) ∙ ap first_line (drop-drop r.size at t) in
      let fewer : line_length (drop (at + r.size) t) ≡ length line - r.size =
      sym (line-length (drop (at + r.size) t)) ∙ ap length (sym rest) ∙ length-drop r.size line in
      let m : g.most ≡ suc (g.most - 1) = omega arith in
      record {
        most = g.most - 1;
        enough = omega arith;
        same =
            g.same
            ∙ ap (λ (n : ℕ). before ++ front_words n line) m
            ∙ ap (◌++◌ before) (front_some (g.most - 1) line r found)
            ∙ rw rest (sym (append_snoc before r (front_words (g.most - 1) (first_line (drop (at + r.size) t)))));
        here = omega (arith, g.here, sizes_more before r);
        left = omega (arith, g.left, sizes_more before r);
      }

  -- no word follows: these are all, and the line ends here or not
  module _ (e : word (drop at t) ≡ None) where
    abbrev line : List ℕ
    line = first_line (drop from t)

    pub goes_all : formed_words line ≡ before
    goes_all =
        g.same
        ∙ ap (◌++◌ before) (front_none g.most (first_line (drop at t)) (line_word (drop at t) ∙ e))
        ∙ append-nil before

    pub goes_end : ended from line ≡ cond (eqb (line_length (drop at t)) 0) (Ok at) (Err (record { at = at }))
    goes_end =
        let whole : is_some (words line) ≡ eqb (line_length (drop at t)) 0 =
        all_formed line
        ∙ rw goes_all
        (same_test (size_of before) (length line) (line_length (drop at t)) 0
        (λ h. omega (arith, g.left, line-length (drop from t)))
        (λ h. omega (arith, g.left, line-length (drop from t)))) in
        rw (whole, goes_all, ← g.here)

-- ---- What the answer says

module _ (from : ℕ) (line : List ℕ) where
  abbrev place : ℕ
  place = from + size_of (formed_words line)

  abbrev malformed : Malformed
  malformed = record { at = place }

  -- all words have their form, and they end where the line does
  pub ended_ok : (end : ℕ) → ended from line ≡ Ok end → (words line ≡ Some (formed_words line)) × (end ≡ from + length line)
  unfolding words
  ended_ok end = rw (all_formed line) (go (eqb (size_of (formed_words line)) (length line)) refl)
    where
      go :
          (t : Bool) → eqb (size_of (formed_words line)) (length line) ≡ t
          → cond t (Ok place) (Err malformed) ≡ Ok end
          → (cond t (Some (formed_words line)) None ≡ Some (formed_words line)) × (end ≡ from + length line)
      go true f e = let here : place ≡ end = cc in (refl, omega (arith, eqb-true (size_of (formed_words line)) (length line) f))
      go false f e = cc

  -- or one has not
  pub ended_err : (m : Malformed) → ended from line ≡ Err m → words line ≡ None
  ended_err m = go (words line)
    where
      go :
          (o : Option (List LetterWord))
          → cond (is_some o) (Ok place) (Err malformed) ≡ Err m
          → o ≡ None
      go None e = refl
      go (Some ws) e = cc
