-- Each number is the definition's, and small where the words are of 32 bits.
use mathlib.Core.Path.{◌≡◌, ap, ap₂, ◌∙◌}
use Prim.Native.Nat.{ℕ, max, ◌≤◌}
use native.Mathlib.Nat.{mul-le-mul}
use native.Mathlib.Omega.{arith}
use lib.Dec.{lit<}
use lib.IntN.{pos, nat_abs, ◌*ℤ◌}
use mir.Syntax.{w32, w64}
use mir.Val.{SFits, to_z, of_z}
use mir.Facts.{to_z-of_z}
use borrow.Author.Rules.{rules}
use Rattle.signed.proofs.Integers.{read_back, abs_word, abs_mul, fits_abs}
use Rattle.sine.specs.Sine.{direction_of}
use Rattle.aries.specs.Shear.{divisor, travel, steps}
use Rattle.shears.proofs.Sizes.{travel_bound, steps_bound}
use Rattle.shears.proofs.Cuts.{cut_is, divisor_is, divisor_bound}
use Rattle.shears.proofs.places.Cut.prepare.Goals.{After-from-3, After-from-5, After-max-n, Start}
use Rattle.shears.proofs.places.Cut.prepare.Goals as goal

module _ (c : Start) where
  steps-small : steps c.args.shear ≤ 126322567
  steps-small = steps_bound c.args.shear (search rules) (search rules) c.requires

  way-small : travel c.args.shear ≤ 6442450944
  way-small = travel_bound c.args.shear (search rules) (search rules) c.requires

  divisor-small : divisor c.args.shear ≤ 126322567
  divisor-small = divisor_bound c.args.shear (search rules) (search rules) (search rules) c.requires

divisor-is : (c : After-max-n) → c.max-n.result ≡ divisor c.args.shear
divisor-is c = c.max-n.ensures ∙ ap (λ (n : ℕ). max n 1) c.steps-steps.ensures ∙ divisor_is c.args.shear

module _ (c : After-from-5) where
  across-fits : SFits w32 c.args.shear.across
  across-fits = search rules

  -- to the side
  product-is : to_z w64 (of_z w64 c.from-4.result) *ℤ to_z w64 (of_z w64 c.from-5.result) ≡ pos c.max-n.result *ℤ c.args.shear.across
  product-is =
      ap₂ ◌*ℤ◌ (read_back w64 c.from-4.result c.from-4.type_inv ∙ c.from-4.ensures)
      (read_back w64 c.from-5.result c.from-5.type_inv ∙ c.from-5.ensures ∙ to_z-of_z across-fits)

  product-fits : c.max-n.result ≤ 126322567 → SFits w64 (pos c.max-n.result *ℤ c.args.shear.across)
  product-fits small =
      fits_abs w64 (pos c.max-n.result *ℤ c.args.shear.across) 271275647005884416
      (abs_mul (pos c.max-n.result) c.args.shear.across 126322567 2147483648 small (abs_word c.args.shear.across across-fits)) (lit< tt)

pub overflow_add-result : goal.overflow_add-result
overflow_add-result c = let small = steps-small (goal.at.overflow_add-result c).Start in omega (arith, c.steps-steps.ensures)

pub overflow_mul-result-2 : goal.overflow_mul-result-2
overflow_mul-result-2 c =
    let s = (goal.at.overflow_mul-result-2 c).Start in
    let is = divisor-is (goal.at.overflow_mul-result-2 c).After-max-n in
    rw (c.from-3.ensures, is, c.travel-travel.ensures) (record { fits = omega (arith, mul-le-mul (divisor-small s) (way-small s)) })

pub overflow_mul-result-3 : goal.overflow_mul-result-3
overflow_mul-result-3 c = let small = way-small (goal.at.overflow_mul-result-3 c).Start in omega (arith, c.travel-travel.ensures)

pub overflow_mul-from : goal.overflow_mul-from
overflow_mul-from c =
    let is = divisor-is (goal.at.overflow_mul-from c).After-max-n in
    let small = divisor-small (goal.at.overflow_mul-from c).Start in
    rw (product-is c) (product-fits c (omega arith))

pub overflow_mul-n : goal.overflow_mul-n
overflow_mul-n c = let small = divisor-small (goal.at.overflow_mul-n c).Start in omega (arith, divisor-is (goal.at.overflow_mul-n c).After-max-n)

pub returns : goal.returns
returns c =
    let s = (goal.at.returns c).Start in
    let m = (goal.at.returns c).After-max-n in
    let p = (goal.at.returns c).After-from-5 in
    let is = divisor-is m in
    let small = divisor-small s in
    let length-back : to_z w32 (of_z w32 c.args.shear.length) ≡ c.args.shear.length = search rules in
    rw (c.from.ensures, c.from-3.ensures)
    (cut_is c.args.angle c.args.shear c.steps-steps.ensures (c.from-2.ensures ∙ c.unsigned_abs.ensures.value ∙ ap nat_abs length-back) c.travel-travel.ensures is
    (rw (product-is p, to_z-of_z (product-fits p (omega arith))) at c.new.ensures)
    (c.direction_of.ensures ∙ ap direction_of (read_back w64 c.from-6.result c.from-6.type_inv ∙ c.from-6.ensures)))
