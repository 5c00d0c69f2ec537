-- Numbers at the front of a line, each with the rest of the line: lengths in millimetres, and tools.
use Rattle.std.specs.Prelude.{Bool, false, cond, List, ℕ, ◌*◌, ℤ, eqb, get_or, drop, Option, Some, None}
use Rattle.std.specs.Borrow.{Bor}
use Rattle.signed.specs.Signed.{with_sign}
use Rattle.aries.specs.Text.{minus, point}
use Rattle.aries.specs.Words.{Digits, digits, hundredths, is_sign}

-- the digits at the front of a line, at most so many, and the rest of the line
abbrev pub front_digits : ℕ → List ℕ → Digits × List ℕ
front_digits most line =
    let read : Digits = digits most 0 0 line in
    (read, drop read.count line)

-- a line without the sign at its front, if one stands there
abbrev pub without_sign : List ℕ → List ℕ
without_sign line = cond (is_sign (get_or line 0 0)) (drop 1 line) line

-- the size of a length in hundredths of a millimetre, from its digits before the point and what stands behind them: a point with
-- 0 to 2 decimals, or no point
abbrev pub with_decimals : Digits → List ℕ → ℕ × List ℕ
with_decimals whole line =
    let (decimals, rest) = front_digits 2 (drop 1 line) in
    cond (eqb (get_or line 0 0) point) (hundredths whole decimals, rest) (whole.value * 100, line)

-- a length from its sign and its digits before the point, of which there is at least one
abbrev pub length_from : Bool → Digits × List ℕ → Option (ℤ × List ℕ)
length_from negative (whole, line) =
    let (size, rest) = with_decimals whole line in
    cond (eqb whole.count 0) None (Some (with_sign negative size, rest))

-- A length: a sign or none, 1 to 4 digits, and then a point with 0 to 2 decimals, or no point.
unfoldable pub length_of : List ℕ → Option (ℤ × List ℕ)
unfolding digits
length_of line = length_from (eqb (get_or line 0 0) minus) (front_digits 4 (without_sign line))

-- a tool from its digits: it is not 0
abbrev pub tool_from : Digits × List ℕ → Option (ℤ × List ℕ)
tool_from (number, rest) = cond (eqb number.value 0) None (Some (with_sign false number.value, rest))

-- A tool: 1 or 2 digits, without a sign.
unfoldable pub tool_of : List ℕ → Option (ℤ × List ℕ)
unfolding digits
tool_of line = tool_from (front_digits 2 line)

-- ---- What reading one answers

-- a number that was read, and the rest of the line, which is lent
abbrev pub found : Option (ℤ × Bor (List ℕ)) → Option (ℤ × List ℕ)
found None = None
found (Some (number, rest)) = Some (number, rest.now)
