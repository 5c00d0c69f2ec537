-- The first bytes of U and V lines.
use Rattle.std.specs.Prelude.{Bool, ◌||◌, ℕ, eqb}
use Rattle.aries.specs.Letters.{letter_u, letter_v}

abbrev pub marks : ℕ → Bool
marks b = eqb b letter_u || eqb b letter_v
