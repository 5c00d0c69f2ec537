-- What 18 has found not negative fits without a sign.
use mathlib.Core.Path.{◌≡◌, ap, ap₂, ◌∙◌}
use native.Mathlib.Omega.{arith}
use lib.IntN.{pos, ◌-ℤ◌}
use borrow.Author.Rules.{rules}
use Prim.Native.Nat.{◌≤◌}
use Rattle.std.proofs.lemmas.Int.{ints}
use Rattle.aries.specs.Shear.{travel}
use Rattle.aries.proofs.Shear.{travel_is}
use Rattle.shears.proofs.Sizes.{travel_bound}
use Rattle.shears.proofs.numbers.travel.Goals.{After-from, Start}
use Rattle.shears.proofs.numbers.travel.Goals as goal

small : (c : Start) → travel c.args.shear ≤ 6442450944
small c = travel_bound c.args.shear (search rules) (search rules) c.requires

difference-is : (c : After-from) → c.cut_length.result -ℤ c.from.result ≡ pos (travel c.args.shear)
difference-is c = ap₂ ◌-ℤ◌ c.cut_length.ensures (c.from.ensures ∙ ap pos c.width.ensures) ∙ travel_is c.args.shear c.requires

pub overflow_cast-result : goal.overflow_cast-result
overflow_cast-result c = grind (arith, ints, difference-is c, small (goal.at.overflow_cast-result c).Start)

pub returns : goal.returns
returns c = omega (arith, ints, difference-is c, small (goal.at.returns c).Start)
