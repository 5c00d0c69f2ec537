-- The tool's size is above 1 mm, so that a step is above nothing and their number fits.
use mathlib.Core.Path.{◌≡◌}
use Prim.Native.Nat.{◌<◌}
use native.Mathlib.Omega.{arith}
use borrow.Author.Rules.{rules}
use Rattle.aries.specs.Shear.{longest_step, travel, steps}
use Rattle.aries.proofs.Shear.{fit_wide}
use Rattle.shears.proofs.Sizes.{div_ceil_is, steps_bound}
use Rattle.shears.proofs.numbers.steps.Goals.{After-div_ceil, After-from-longest, Start}
use Rattle.shears.proofs.numbers.steps.Goals as goal

-- the tool's size
wide : (c : After-from-longest) → 100 < c.from-longest.result
wide c = omega (arith, c.from-longest.ensures, c.width.ensures, fit_wide c.args.shear c.requires)

pub overflow_sub-longest : goal.overflow_sub-longest
overflow_sub-longest c = omega (arith, wide c)

pub div_ceil-requires : goal.div_ceil-requires
div_ceil-requires c = omega (arith, wide (goal.at.div_ceil-requires c).After-from-longest)

steps-are : (c : After-div_ceil) → c.div_ceil.result ≡ steps c.args.shear
unfolding steps
steps-are c = rw (c.div_ceil.ensures, c.travel.ensures, c.from-longest.ensures, c.width.ensures) (div_ceil_is (travel c.args.shear) (longest_step c.args.shear) (omega (arith, fit_wide c.args.shear c.requires)))

pub overflow_cast-result : goal.overflow_cast-result
overflow_cast-result c = rw (steps-are c) (record { fits = omega (arith, steps_bound c.args.shear (search rules) (search rules) c.requires) })

pub returns : goal.returns
returns c = steps-are c
