-- The ranges of numbers as the code has them.
use Rattle.std.specs.Prelude.{List, map, ℕ}
use Rattle.aries.specs.Numbers.{Range, above_zero, not_negative, whole, signed_whole}
use Rattle.blocks.specs.declared.numbers.Range as coded
use Rattle.blocks.specs.declared.numbers.Range.TheVariants.{AboveZero, NotNegative, Whole, SignedWhole}

-- a range
abbrev pub range_of : coded.Range → Range
range_of AboveZero = above_zero
range_of NotNegative = not_negative
range_of (Whole least most) = whole least most
range_of (SignedWhole least most) = signed_whole least most

-- a letter and its range
abbrev pub row_of : ℕ × coded.Range → ℕ × Range
row_of r = (r.0, range_of r.1)

abbrev pub ranges_in : List (ℕ × coded.Range) → List (ℕ × Range)
ranges_in rows = map row_of rows
