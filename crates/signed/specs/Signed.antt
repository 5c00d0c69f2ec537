-- Tests on whole numbers with a sign, and a number from its sign and size.
-- Assumes nothing.
use Rattle.std.specs.Prelude.{Bool, true, false, ℕ, eqb, ℤ, pos, negsuc, neg_ℤ}

-- the two numbers are the same
abbrev pub eq_z : ℤ → ℤ → Bool
eq_z (pos a) (pos b) = eqb a b
eq_z (pos a) (negsuc b) = false
eq_z (negsuc a) (pos b) = false
eq_z (negsuc a) (negsuc b) = eqb a b

-- the largest size of a place as it is computed: far beyond every place of a text, and far within 64 bits
abbrev pub wide_limit : ℕ
wide_limit = 1000000000000000

-- minus n where the test holds, else n
abbrev pub with_sign : Bool → ℕ → ℤ
with_sign true n = neg_ℤ (pos n)
with_sign false n = pos n
