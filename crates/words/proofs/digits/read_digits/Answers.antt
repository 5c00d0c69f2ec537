use mathlib.Core.Path.{◌≡◌, refl, sym, ap, ◌∙◌}
use mathlib.Core.Bool.{true}
use borrow.Author.Rules.{rules}
use Prim.Native.Nat.{ℕ, ◌+◌, ◌-◌, ◌^◌, ◌<◌}
use native.Mathlib.Nat.{sub-zero, add-zero}
use native.Mathlib.Omega.{arith}
use lib.Dec.{lit<}
use lib.ListN.{drop}
use Rattle.aries.specs.Text.{is_digit}
use Rattle.words.specs.Digits.{held}
use Rattle.words.proofs.Bytes.{test_inside, digit_high}
use Rattle.words.proofs.Numerals.{digits_full, digits-stop_at, digits_more_at, one_more, below_power}
use Rattle.words.proofs.digits.read_digits.Goals.{Else-not-is_ascii_digit}
use Rattle.words.proofs.digits.read_digits.Goals as goal

-- a digit stands at the place
module _ (c : Else-not-is_ascii_digit) where
  abbrev byte : ℕ
  byte = c.byte_at-b.result

  digit : is_digit byte ≡ true
  digit = sym c.is_ascii_digit.ensures.value ∙ c.if-not-is_ascii_digit.false

  room : c.loop-count.value < 10 ^ 5
  room = let w = c.loop-count in below_power w.value w.count 5 w.invariant.1 (omega arith)

pub loop-count-init : goal.loop-count-init
loop-count-init c = (omega arith, lit< tt, simp (sub-zero, add-zero))

pub returns-then-not-is_ascii_digit : goal.returns-then-not-is_ascii_digit
returns-then-not-is_ascii_digit c =
    let w = c.loop-count in
    let a = c.args in
    let other = sym c.is_ascii_digit.ensures.value ∙ c.if-not-is_ascii_digit.true in
    ap held
    (sym
    (digits-stop_at a.text.now (a.from + w.count) c.byte_at-b.result w.value w.count c.byte_at-b.ensures
    (a.most - w.count)
    other)
    ∙ w.invariant.2)

pub overflow_mul-value : goal.overflow_mul-value
overflow_mul-value c = omega (arith, room c)

pub overflow_add-value : goal.overflow_add-value
overflow_add-value c =
    let d = (goal.at.overflow_add-value c).Else-not-is_ascii_digit in
    omega (arith, room d, digit_high (byte d) (digit d))

pub loop-count-preserved : goal.loop-count-preserved
loop-count-preserved c =
    let d = (goal.at.loop-count-preserved c).Else-not-is_ascii_digit in
    let w = c.loop-count in
    let a = c.args in
    let t = a.text.now in
    let i = a.from + w.count in
    let l = c.byte_at-b.ensures in
    let figure : c.from.result ≡ byte d - 48 = search rules in
    let next : a.from + (w.count + 1) ≡ i + 1 = omega arith in
    rw figure (
      omega (arith, test_inside is_digit t i refl (sym (ap is_digit l) ∙ digit d)),
      one_more w.value (byte d - 48) w.count w.invariant.1 (omega (arith, digit_high (byte d) (digit d))),
      rw next
          (sym (digits_more_at t i (byte d) w.value w.count l a.most (digit d) (omega arith)) ∙ w.invariant.2),
    )

pub returns : goal.returns
returns c =
    let w = c.loop-count in
    let full : w.count ≡ c.args.most = omega arith in
    let rest = drop (c.args.from + w.count) c.args.text.now in
    cc (ap held (sym (digits_full (c.args.most - w.count) w.value w.count rest (omega arith)) ∙ w.invariant.2))
