-- With a point the number stays, without one it is multiplied, in its place (`Hundredths`).
use Rattle.std.specs.Prelude.{Some}
use mathlib.Core.Path.{◌≡◌, sym, ap, ◌∙◌}
use lib.IntN.{pos, nat_abs, ◌*ℤ◌}
use lib.Dec.{leb}
use mir.Syntax.{w32}
use mir.Val.{to_z, of_z}
use borrow.Author.Rules.{rules}
use native.Mathlib.Omega.{arith}
use Rattle.signed.proofs.Integers.{abs_mul}
use Prim.Native.Nat.{ℕ, ◌≤◌}
use Rattle.aries.specs.ByLetter.{Letters, at}
use Rattle.lengths.proofs.Hundredths.{one_stays, pointed_stays, length_multiplied, pointed_near}
use Rattle.lengths.proofs.one_to_hundredths.Goals.{In-Some}
use Rattle.lengths.proofs.one_to_hundredths.Goals as goal

module _ (c : In-Some) where
  abbrev letters : Letters
  letters = c.args.words.now.letters

  found : at letters c.args.letter ≡ Some c.in-Some.word
  found = sym c.at.ensures ∙ c.in-Some.is

  small : nat_abs c.in-Some.word.value ≤ 999999
  small = rw found at c.requires

pub returns-then-word : goal.returns-then-word
returns-then-word c =
    let s = (goal.at.returns-then-word c).In-Some in
    record {
      put = ap (λ (w : Letters). record { letters = w; code = c.args.words.now.code; measure = c.args.words.now.measure })
          (sym (one_stays (letters s) c.args.letter (rw (found s) (ap Some (pointed_stays c.in-Some.word c.if-word.true)))));
      near = rw (found s) (sym (pointed_near c.in-Some.word (small s) c.if-word.true));
    }

-- a hundred times the digits, read back from the word that holds them
pub returns : goal.returns
returns c =
    let s = (goal.at.returns c).In-Some in
    let v = c.in-Some.word in
    let back : to_z w32 (of_z w32 v.value) ≡ v.value = search rules in
    let fits : nat_abs (pos 100 *ℤ v.value) ≤ 99999900 = abs_mul (pos 100) v.value 100 999999 (omega arith) (small s) in
    let whole : to_z w32 (of_z w32 (pos 100 *ℤ v.value)) ≡ pos 100 *ℤ v.value = search rules in
    let long = length_multiplied v c.if-word.false in
    record {
      put = simp (back, whole) at c.put.ensures ∙ rw (found s, long);
      near = ap (λ (n : ℕ). leb n 999999) (simp (back, whole) at c.unsigned_abs.ensures.value) ∙ rw (found s, long);
    }
