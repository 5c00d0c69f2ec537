-- Laws of the bytes of a text: what passes a test does not stand past the end, and bounds of a digit and a capital.
-- Assumes nothing.
use mathlib.Core.Path.{◌≡◌, refl, ap, ◌∙◌}
use mathlib.Core.Bool.{Bool, true, false, cond}
use mathlib.Core.List.{List}
use Prim.Native.Nat.{ℕ, ◌+◌, ◌≤◌, ◌<◌}
use native.Mathlib.Omega.{arith}
use lib.Dec.{leb, ltb}
use lib.ListN.{length, get_or, get_or-eq_default}
use borrow.Author.Tests.{leb-true, ltb-true, ltb-false}
use Rattle.signed.proofs.Tests.{and_left, and_right}
use Rattle.aries.specs.Text.{is_capital, is_digit}
use Rattle.aries.specs.Words.{is_sign}

-- past the end the byte is 0
pub test_inside : (f : ℕ → Bool) (bs : List ℕ) (i : ℕ) → f 0 ≡ false → f (get_or bs i 0) ≡ true → i < length bs
test_inside f bs i z e = go (ltb i (length bs)) refl
  where
    go : (t : Bool) → ltb i (length bs) ≡ t → i < length bs
    go true g = ltb-true i (length bs) g
    go false g =
        let past : get_or bs i 0 ≡ 0 = get_or-eq_default bs 0 (ltb-false i (length bs) g) in
        let n : ◌≡◌ {A = ℕ} 0 1 = cc in
        absurd (omega arith)

-- a letter, and the sign if there is one, lie within the text
pub front_inside :
    (t : List ℕ) (at front : ℕ) → is_capital (get_or t at 0) ≡ true → front ≡ cond (is_sign (get_or t (at + 1) 0)) 2 1
    → at + front ≤ length t
front_inside t at front c f = go (is_sign (get_or t (at + 1) 0)) refl
  where
    go : (s : Bool) → is_sign (get_or t (at + 1) 0) ≡ s → at + front ≤ length t
    go true e =
        let two : front ≡ 2 = f ∙ ap (λ (s : Bool). cond s 2 1) e in
        omega (arith, test_inside is_sign t (at + 1) refl e)
    go false e =
        let one : front ≡ 1 = f ∙ ap (λ (s : Bool). cond s 2 1) e in
        omega (arith, test_inside is_capital t at refl c)

module _ (b : ℕ) (d : is_digit b ≡ true) where
  pub digit_low : 48 ≤ b
  digit_low = leb-true 48 b (and_left (leb 48 b) (leb b 57) d)

  pub digit_high : b ≤ 57
  digit_high = leb-true b 57 (and_right (leb 48 b) (leb b 57) d)

module _ (b : ℕ) (c : is_capital b ≡ true) where
  pub capital_low : 65 ≤ b
  capital_low = leb-true 65 b (and_left (leb 65 b) (leb b 90) c)

  pub capital_high : b ≤ 90
  capital_high = leb-true b 90 (and_right (leb 65 b) (leb b 90) c)
