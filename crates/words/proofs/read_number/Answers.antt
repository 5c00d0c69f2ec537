-- The parts of a number are read in their order; each exit is a case of `number_of`.
use mathlib.Core.Path.{◌≡◌, refl, sym, ap, ◌∙◌}
use mathlib.Core.Bool.{true}
use mathlib.Core.List.{List}
use Prim.Native.Nat.{ℕ, ◌+◌, ◌≤◌}
use native.Mathlib.Omega.{arith}
use borrow.Author.Tests.{eq-eqb, ne_eqb, le-leb, lt-leb}
use lib.Dec.{eqb, leb}
use lib.ListN.{get_or, drop, length-drop}
use Rattle.aries.specs.Text.{point}
use Rattle.aries.specs.Words.{digits}
use Rattle.words.specs.Digits.{Held, meant}
use Rattle.words.specs.Reading.{number_of, number}
use Rattle.words.proofs.Bytes.{test_inside}
use Rattle.words.proofs.Numerals.{Bounded, held_bounded, below_power}
use Rattle.words.proofs.Word.{number_at}
use Rattle.words.proofs.read_number.Goals.{After-read_digits-decimals, After-read_digits-whole, Else-byte_at-ne46, Else-whole-eq0}
use Rattle.words.proofs.read_number.Goals as goal

-- ---- once the first digits are read

module _ (c : After-read_digits-whole) where
  abbrev text : List ℕ
  text = c.args.text.now

  abbrev from : ℕ
  from = c.args.from

  abbrev whole : Held
  whole = c.read_digits-whole.result

  -- the place past them
  abbrev past : ℕ
  past = from + whole.count

  few : Bounded 6 0 (drop from text) (meant whole)
  few = held_bounded 6 (drop from text) whole c.read_digits-whole.ensures

  parts : number (drop from text) ≡ number_of (meant whole) (get_or text past 0) (digits 2 0 0 (drop (past + 1) text))
  parts = number_at text from (meant whole) (ap meant c.read_digits-whole.ensures)

-- ---- and there are some

some-digits : (c : Else-whole-eq0) → leb 1 c.read_digits-whole.result.count ≡ true
some-digits c = le-leb 1 c.read_digits-whole.result.count (omega (arith, c.if-whole-eq0.false))

-- ---- where a point follows them

is-point :
    (c : Else-byte_at-ne46) → eqb (get_or c.args.text.now (c.args.from + c.read_digits-whole.result.count) 0) point ≡ true
is-point c =
    eq-eqb (get_or c.args.text.now (c.args.from + c.read_digits-whole.result.count) 0) point (sym c.byte_at.ensures ∙ c.if-byte_at-ne46.false)

-- ---- and they are few enough

module _ (c : After-read_digits-decimals) where
  abbrev count : ℕ
  count = c.read_digits-whole.result.count

  -- the bytes behind the point
  abbrev rest : List ℕ
  rest = drop (c.args.from + count + 1) c.args.text.now

  four : count ≤ 4
  four = omega (arith, c.if-whole-gt-MOST_WHOLE.false)

  two : Bounded 2 0 rest (meant c.read_digits-decimals.result)
  two = held_bounded 2 rest c.read_digits-decimals.result c.read_digits-decimals.ensures

-- ---- the goals, in the order of the code

pub returns-then-whole-eq0 : goal.returns-then-whole-eq0
returns-then-whole-eq0 c =
    let d = (goal.at.returns-then-whole-eq0 c).After-read_digits-whole in
    rw (parts d) (simp (lt-leb 1 (whole d).count (omega (arith, c.if-whole-eq0.true))))

pub overflow_add-end : goal.overflow_add-end
overflow_add-end c =
    let d = (goal.at.overflow_add-end c).After-read_digits-whole in
    omega (arith, (few d).inside, length-drop (from d) (text d))

pub returns-then-byte_at-ne46 : goal.returns-then-byte_at-ne46
returns-then-byte_at-ne46 c =
    let g = goal.at.returns-then-byte_at-ne46 c in
    let d = g.After-read_digits-whole in
    let other : get_or (text d) (past d) 0 ≡ point → ⊥ = λ p. c.if-byte_at-ne46.true (c.byte_at.ensures ∙ p) in
    rw (parts d) (simp (some-digits g.Else-whole-eq0, ne_eqb (get_or (text d) (past d) 0) point other))

pub returns-then-whole-gt-MOST_WHOLE : goal.returns-then-whole-gt-MOST_WHOLE
returns-then-whole-gt-MOST_WHOLE c =
    let g = goal.at.returns-then-whole-gt-MOST_WHOLE c in
    let d = g.After-read_digits-whole in
    rw (parts d) (simp (some-digits g.Else-whole-eq0, is-point g.Else-byte_at-ne46, lt-leb (whole d).count 4 c.if-whole-gt-MOST_WHOLE.true))

pub overflow_add-end-2 : goal.overflow_add-end-2
overflow_add-end-2 c =
    let g = goal.at.overflow_add-end-2 c in
    let d = g.After-read_digits-whole in
    omega (arith, test_inside (λ (b : ℕ). eqb b point) (text d) (past d) refl (is-point g.Else-byte_at-ne46))

pub hundredths_of-value-requires : goal.hundredths_of-value-requires
hundredths_of-value-requires c =
    let g = goal.at.hundredths_of-value-requires c in
    let r = g.After-read_digits-decimals in
    let w = c.read_digits-whole.result in
    let e = c.read_digits-decimals.result in (
      below_power w.value w.count 4 (few g.After-read_digits-whole).small (four r),
      below_power e.value e.count 2 (two r).small (two r).few,
    )

pub overflow_add-result : goal.overflow_add-result
overflow_add-result c = omega (arith, four (goal.at.overflow_add-result c).After-read_digits-decimals)

pub overflow_add-result-2 : goal.overflow_add-result-2
overflow_add-result-2 c = let r = (goal.at.overflow_add-result-2 c).After-read_digits-decimals in omega (arith, four r, (two r).few)

pub returns : goal.returns
returns c =
    let g = goal.at.returns c in
    let r = g.After-read_digits-decimals in
    rw (parts g.After-read_digits-whole)
    (simp (
      c.hundredths_of-value.ensures,
      some-digits g.Else-whole-eq0,
      is-point g.Else-byte_at-ne46,
      le-leb (count r) 4 (four r),
      r.read_digits-decimals.ensures,
    ))
