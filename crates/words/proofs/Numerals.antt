-- Laws of `digits`: one step at a place of a line, and bounds of the count and the value.
-- Assumes nothing.
use mathlib.Core.Path.{◌≡◌, refl, sym, ap, ◌∙◌}
use mathlib.Core.Bool.{Bool, true, false, cond}
use mathlib.Core.List.{List, [], ◌∷◌}
use Prim.Native.Nat.{ℕ, zero, suc, ◌+◌, ◌-◌, ◌*◌, ◌^◌, ◌≤◌, ◌<◌}
use native.Mathlib.Nat.{add-zero, pow-suc, pow-le-pow_right, lt_of_lt_of_le}
use native.Mathlib.Omega.{arith}
use native.Mathlib.Numerals.{add-one}
use lib.Dec.{eqb, lit≤, lit<}
use lib.ListN.{length, drop, get_or}
use lib.Seq.{drop-drop, get_or-drop}
use borrow.Author.Tests.{eqb-true}
use Rattle.aries.specs.Text.{is_digit}
use Rattle.aries.specs.Words.{Digits, digits, hundredths}
use Rattle.words.specs.Digits.{Held, held, meant}
use Rattle.words.proofs.Bytes.{digit_high}

-- ---- one step

-- as many digits as are wanted
pub digits_full :
    (n value count : ℕ) (bs : List ℕ) → n ≡ 0 → digits n value count bs ≡ record { value = value; count = count }
unfolding digits
digits_full n value count bs e = rw e

-- where no digit stands
pub digits-stop :
    (n value count : ℕ) (bs : List ℕ) → is_digit (get_or bs 0 0) ≡ false
    → digits n value count bs ≡ record { value = value; count = count }
unfolding digits
digits-stop zero value count bs e = refl
digits-stop (suc n) value count [] e = refl
digits-stop (suc n) value count (b ∷ bs) e = rw (e, digits)

-- at a digit
pub digits_more :
    (n value count : ℕ) (bs : List ℕ) → is_digit (get_or bs 0 0) ≡ true
    → digits (suc n) value count bs ≡ digits n (value * 10 + (get_or bs 0 0 - 48)) (suc count) (drop 1 bs)
unfolding digits
digits_more n value count [] e = cc
digits_more n value count (b ∷ bs) e = rw (e, digits)

-- at a place where a byte was read
module _ (t : List ℕ) (at b value count : ℕ) (e : b ≡ get_or t at 0) where
  there : get_or (drop at t) 0 0 ≡ b
  there = simp (get_or-drop, add-zero) (sym e)

  pub digits-stop_at :
      (n : ℕ) → is_digit b ≡ false → digits n value count (drop at t) ≡ record { value = value; count = count }
  digits-stop_at n d = digits-stop n value count (drop at t) (ap is_digit there ∙ d)

  pub digits_more_at :
      (most : ℕ) → is_digit b ≡ true → count < most
      → digits (most - count) value count (drop at t)
      ≡ digits (most - (count + 1)) (value * 10 + (b - 48)) (count + 1) (drop (at + 1) t)
  digits_more_at most d h =
      let n : most - count ≡ suc (most - (count + 1)) = omega arith in
      rw (n, digits_more (most - (count + 1)) value count (drop at t) (ap is_digit there ∙ d), there, drop-drop, add-one)

-- ---- bounds

-- a value of so many digits, with one digit more
pub one_more : (value digit count : ℕ) → value < 10 ^ count → digit ≤ 9 → value * 10 + digit < 10 ^ (count + 1)
one_more value digit count h g =
    let e : 10 ^ (count + 1) ≡ 10 ^ count * 10 = ap (λ (n : ℕ). 10 ^ n) (add-one count) ∙ pow-suc 10 count in
    omega arith

-- fewer digits, smaller values
pub below_power : (value count most : ℕ) → value < 10 ^ count → count ≤ most → value < 10 ^ most
below_power value count most h g = lt_of_lt_of_le h (pow-le-pow_right {n = 10} (lit≤ tt) g)

-- what holds of the digits read, after those that are counted already
pub record Bounded (most count : ℕ) (bs : List ℕ) (d : Digits) : Type 0 where
  pub few : d.count ≤ count + most
  pub inside : d.count ≤ count + length bs
  pub small : d.value < 10 ^ d.count

pub digits_bounded :
    (most value count : ℕ) (bs : List ℕ) → value < 10 ^ count
    → Bounded most count bs (digits most value count bs)
unfolding digits
digits_bounded zero value count bs h = record { few = omega arith; inside = omega arith; small = h }
digits_bounded (suc most) value count [] h = record { few = omega arith; inside = omega arith; small = h }
digits_bounded (suc most) value count (b ∷ bs) h =
    go (is_digit b) refl (λ v. digits_bounded most (value * 10 + (b - 48)) (suc count) bs v)
  where
    go :
        (t : Bool) → is_digit b ≡ t
        → (value * 10 + (b - 48) < 10 ^ suc count
        → Bounded most (suc count) bs (digits most (value * 10 + (b - 48)) (suc count) bs))
        → Bounded (suc most) count (b ∷ bs) (digits (suc most) value count (b ∷ bs))
    go true e rest =
        let v : value * 10 + (b - 48) < 10 ^ (count + 1) =
        one_more value (b - 48) count h (omega (arith, digit_high b e)) in
        let r = rest (rw add-one at v) in
        rw (digits_more most value count (b ∷ bs) e)
        (record { few = omega arith; inside = omega arith; small = r.small })
    go false e rest =
        rw (digits-stop (suc most) value count (b ∷ bs) e)
        (record { few = omega arith; inside = omega arith; small = h })

-- the same of digits that the code read
pub held_bounded : (most : ℕ) (bs : List ℕ) (d : Held) → d ≡ held (digits most 0 0 bs) → Bounded most 0 bs (meant d)
held_bounded most bs d e = rw e (digits_bounded most 0 0 bs (lit< tt))

-- hundredths of a number with a point stay below 10^6
pub hundredths-small :
    (whole decimals : Digits) → whole.value < 10000 → decimals.value < 10 ^ decimals.count → decimals.count ≤ 2
    → hundredths whole decimals < 1000000
hundredths-small whole decimals h s k = go (eqb decimals.count 1) refl
  where
    go :
        (t : Bool) → eqb decimals.count 1 ≡ t → whole.value * 100 + decimals.value * cond t 10 1 < 1000000
    go true e =
        let one : decimals.count ≡ 1 = eqb-true decimals.count 1 e in
        let d : decimals.value < 10 ^ 1 = below_power decimals.value decimals.count 1 s (omega arith) in
        omega arith
    go false e = let d : decimals.value < 10 ^ 2 = below_power decimals.value decimals.count 2 s k in omega arith
