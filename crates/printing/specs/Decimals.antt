-- Numbers as decimal digits, in the bytes that stand for them. The library's definition goes to 64 digits and no further; these are
-- the digits of every number.
use Rattle.std.specs.Prelude.{true, false, List, [], ◌∷◌, ◌++◌, ℕ, zero, suc, ◌+◌, ◌/◌, ◌%◌, ltb, ℤ, pos, negsuc}
use Rattle.aries.specs.Text.{minus}

-- the byte of a digit from 0 to 9
abbrev pub digit : ℕ → ℕ
digit d = 48 + d

-- the digits of n, of which there are at most one more than the first number
unfoldable pub digits : ℕ → ℕ → List ℕ
digits zero n = digit n ∷ []
digits (suc k) n = elim (ltb n 10) [
  | true ↦ digit n ∷ []
  | false ↦ digits k (n / 10) ++ (digit (n % 10) ∷ [])
]

-- n without leading zeros; it has no more than n + 1 digits
unfoldable pub decimal : ℕ → List ℕ
unfolding digits
decimal n = digits n n

-- a minus before what is below zero
unfoldable pub signed_decimal : ℤ → List ℕ
unfolding decimal
signed_decimal (pos n) = decimal n
signed_decimal (negsuc n) = minus ∷ decimal (suc n)
