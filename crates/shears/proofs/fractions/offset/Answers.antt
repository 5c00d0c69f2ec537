-- What is left of the two numerators is divided once more, and the wholes are rounded toward zero and then by 10^9.
use mathlib.Core.Path.{◌≡◌, sym, ap, ap₂, ◌∙◌}
use Prim.Native.Nat.{◌≤◌, ◌*◌}
use native.Mathlib.Nat.{le_trans}
use lib.Dec.{lit<, lit≤}
use lib.IntN.{ℤ, pos, nat_abs, ◌+ℤ◌}
use lib.Signed.{quot_z, rem_z}
use mir.Syntax.{w64}
use mir.Val.{SFits, to_z, of_z}
use mir.Facts.{to_z-of_z}
use borrow.Author.Rules.{rules}
use Rattle.signed.proofs.Integers.{read_back, fits_abs, rest-small}
use Rattle.sine.specs.Series.{one}
use Rattle.sine.specs.Sine.{rounded}
use Rattle.sine.proofs.Rounding.{rounded-small}
use Rattle.shears.specs.declared.fractions.Fraction.{Fraction}
use Rattle.shears.specs.Fractions.{split, toward_zero}
use Rattle.shears.proofs.Wholes.{rests, wholes, sum_split, sum_size, toward-size, rounded-parts}
use Rattle.shears.proofs.fractions.offset.Goals.{After-combined-2, After-toward_zero, Start}
use Rattle.shears.proofs.fractions.offset.Goals as goal

module _ (c : Start) where
  -- what is left of the numerators, and the wholes with what that gives
  abbrev left : ℤ
  left = rests c.args.a c.args.b c.args.p c.args.q c.requires.same_denominator

  abbrev sum : ℤ
  sum = wholes c.args.a c.args.b c.args.p c.args.q c.requires.same_denominator +ℤ quot_z left (pos c.args.a.denominator)

  sum_bound : nat_abs sum ≤ 8589934594000000000
  sum_bound =
      sum_size c.args.a c.args.b c.args.p c.args.q c.requires.same_denominator c.requires.reduced c.requires.reduced_2
      c.requires.p_bound.0 c.requires.p_bound.1

  sum_fits : SFits w64 sum
  sum_fits = fits_abs w64 sum 8589934594000000000 sum_bound (lit< tt)

  -- without the rest
  abbrev cut : ℤ
  cut = toward_zero sum (rem_z left (pos c.args.a.denominator))

  cut_bound : nat_abs cut ≤ 9000000000000000000
  cut_bound = le_trans (toward-size sum (rem_z left (pos c.args.a.denominator)) 8589934594000000000 sum_bound) (lit≤ tt)

-- the function's entry, seen from the wholes
abbrev entry : After-combined-2 → Start
entry c = c.before.before.before.before.before.before.before

module _ (c : After-combined-2) where
  a-whole : to_z w64 (of_z w64 c.args.a.whole) ≡ c.args.a.whole
  a-whole = search rules

  a-rest : to_z w64 (of_z w64 c.args.a.rest) ≡ c.args.a.rest
  a-rest = search rules

  b-whole : to_z w64 (of_z w64 c.args.b.whole) ≡ c.args.b.whole
  b-whole = search rules

  b-rest : to_z w64 (of_z w64 c.args.b.rest) ≡ c.args.b.rest
  b-rest = search rules

  rests-are : c.new-rests.result ≡ split (entry c).args.a.denominator (left (entry c))
  rests-are =
      let combined-is : c.combined.result ≡ left (entry c) =
      simp (a-rest, b-rest, to_z-of_z c.ranges.p, to_z-of_z c.ranges.q) at c.combined.ensures in
      (simp (read_back w64 c.combined.result c.combined.type_inv) at c.new-rests.ensures)
      ∙ ap (split (entry c).args.a.denominator) combined-is

  whole_back : to_z w64 (of_z w64 c.new-rests.result.whole) ≡ c.new-rests.result.whole
  whole_back = search rules

  rest_back : to_z w64 (of_z w64 c.new-rests.result.rest) ≡ c.new-rests.result.rest
  rest_back = search rules

  sum_is : to_z w64 (of_z w64 c.combined-2.result) +ℤ to_z w64 (of_z w64 c.new-rests.result.whole) ≡ sum (entry c)
  sum_is =
      ap₂ ◌+ℤ◌
      (read_back w64 c.combined-2.result c.combined-2.type_inv ∙ (simp (a-whole, b-whole, to_z-of_z c.ranges.p, to_z-of_z c.ranges.q) at c.combined-2.ensures))
      (whole_back ∙ ap (λ (x : Fraction). x.whole) rests-are)

pub overflow_add-sum : goal.overflow_add-sum
overflow_add-sum c =
    let h = (goal.at.overflow_add-sum c).After-combined-2 in
    rw (sum_is h) (sum_fits (entry h))

pub toward_zero-requires : goal.toward_zero-requires
toward_zero-requires c =
    let h = (goal.at.toward_zero-requires c).After-combined-2 in
    rw (sum_is h, to_z-of_z (sum_fits (entry h))) (le_trans (sum_bound (entry h)) (lit≤ tt))

-- the wholes, seen from where the rest is left out
abbrev before : After-toward_zero → After-combined-2
before c = c.before.before.before.before

-- the wholes without the rest
cut-is : (c : After-toward_zero) → c.toward_zero.result ≡ cut (entry (before c))
cut-is c =
    let h = before c in
    (rw (sum_is h, to_z-of_z (sum_fits (entry h)), rest_back h) at c.toward_zero.ensures)
    ∙ ap (λ (x : Fraction). toward_zero (sum (entry h)) x.rest) (rests-are h)

pub rounded-requires : goal.rounded-requires
rounded-requires c =
    rw (read_back w64 c.toward_zero.result c.toward_zero.type_inv, cut-is c) (cut_bound (entry (before c)))

pub returns : goal.returns
returns c =
    let t = (goal.at.returns c).After-toward_zero in
    let s = entry (before t) in
    let m = s.args.a.denominator in
    let some = s.requires.denominator_nonzero in
    let is = read_back w64 c.rounded.result c.rounded.type_inv ∙ (rw (read_back w64 t.toward_zero.result t.toward_zero.type_inv, cut-is t) at c.rounded.ensures) in
    record {
      value = is ∙ sym (rounded-parts m some (sum s) (rem_z (left s) (pos m)) (rest-small (left s) m some))
          ∙ ap (λ (z : ℤ). rounded z (m * one)) (sym (sum_split s.args.a s.args.b s.args.p s.args.q s.requires.same_denominator));
      result_bound = rw is (rounded-small (cut s) 9000000000000000000 (cut_bound s));
    }
