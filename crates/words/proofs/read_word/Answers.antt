-- The letter, the sign and the number are read in their order.
use Rattle.std.specs.Prelude.{Some, option_map}
use mathlib.Core.Path.{◌≡◌, refl, sym, ap, ◌∙◌}
use mathlib.Core.Bool.{true, cond}
use mathlib.Core.List.{List}
use Prim.Native.Nat.{ℕ, ◌+◌, ◌≤◌}
use native.Mathlib.Omega.{arith}
use lib.ListN.{length, get_or, drop}
use Rattle.aries.specs.Text.{is_capital}
use Rattle.aries.specs.Words.{is_sign, word}
use Rattle.words.specs.Reading.{reading_of, reading_at}
use Rattle.words.proofs.Bytes.{test_inside, front_inside}
use Rattle.words.proofs.Word.{number_fits, reading_none, reading_some}
use Rattle.words.proofs.read_word.Goals.{After-front_size, After-read_number, Else-not-is_ascii_uppercase}
use Rattle.words.proofs.read_word.Goals as goal

-- a letter stands at the place
module _ (c : Else-not-is_ascii_uppercase) where
  abbrev text : List ℕ
  text = c.args.text.now

  abbrev at : ℕ
  at = c.args.at

  capital : is_capital (get_or text at 0) ≡ true
  capital = sym (c.is_ascii_uppercase.ensures.value ∙ ap is_capital c.byte_at-letter.ensures) ∙ c.if-not-is_ascii_uppercase.false

-- the number starts within the text
module _ (c : After-front_size) (capital-is : is_capital (get_or c.args.text.now c.args.at 0) ≡ true) where
  front-is : c.front_size.result ≡ cond (is_sign (get_or c.args.text.now (c.args.at + 1) 0)) 2 1
  front-is = c.front_size.ensures ∙ ap (λ (b : ℕ). cond (is_sign b) 2 1) c.byte_at-sign.ensures

  from-inside : c.args.at + c.front_size.result ≤ length c.args.text.now
  from-inside = front_inside c.args.text.now c.args.at c.front_size.result capital-is front-is

pub returns-then-not-is_ascii_uppercase : goal.returns-then-not-is_ascii_uppercase
returns-then-not-is_ascii_uppercase c =
    reading_none c.args.text.now c.args.at
    (sym (c.is_ascii_uppercase.ensures.value ∙ ap is_capital c.byte_at-letter.ensures) ∙ c.if-not-is_ascii_uppercase.true)

pub overflow_add-at : goal.overflow_add-at
overflow_add-at c =
    let l = (goal.at.overflow_add-at c).Else-not-is_ascii_uppercase in
    omega (arith, test_inside is_capital (text l) (at l) refl (capital l))

pub overflow_add-from : goal.overflow_add-from
overflow_add-from c =
    let g = goal.at.overflow_add-from c in
    omega (arith, from-inside g.After-front_size (capital g.Else-not-is_ascii_uppercase))

-- the word by the number that was read
word-read :
    (c : After-read_number) → is_capital (get_or c.args.text.now c.args.at 0) ≡ true
    → option_map (reading_of c.byte_at-letter.result c.byte_at-sign.result (c.args.at + c.front_size.result)) c.read_number.result
    ≡ reading_at c.args.at (word (drop c.args.at c.args.text.now))
word-read c letter =
    reading_some c.args.text.now c.args.at c.byte_at-letter.result c.byte_at-sign.result c.front_size.result c.read_number.result
    c.byte_at-letter.ensures
    c.byte_at-sign.ensures
    c.read_number.ensures
    letter
    (c.front_size.ensures ∙ ap (λ (b : ℕ). cond (is_sign b) 2 1) c.byte_at-sign.ensures)

pub returns-in_err-number : goal.returns-in_err-number
returns-in_err-number c =
    let g = goal.at.returns-in_err-number c in
    c.from_residual.ensures ∙ rw c.in_err-number.was at (word-read g.After-read_number (capital g.Else-not-is_ascii_uppercase))

pub make_reading-requires : goal.make_reading-requires
make_reading-requires c =
    let g = goal.at.make_reading-requires c in
    let inside = from-inside g.After-front_size (capital g.Else-not-is_ascii_uppercase) in
    let f = number_fits c.args.text.now (c.args.at + c.front_size.result) c.in_ok-number.number inside (sym c.read_number.ensures ∙ c.in_ok-number.was) in
    (omega (arith, f.0), f.1)

pub returns : goal.returns
returns c =
    let g = goal.at.returns c in
    ap Some c.make_reading.ensures ∙ rw c.in_ok-number.was at (word-read g.After-read_number (capital g.Else-not-is_ascii_uppercase))
