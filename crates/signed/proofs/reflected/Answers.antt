-- A sum regrouped.
use native.Mathlib.Omega.{arith}
use Rattle.std.proofs.lemmas.Int.{ints}
use Rattle.signed.proofs.reflected.Goals as goal

pub returns : goal.returns
returns c = omega (arith, ints)
