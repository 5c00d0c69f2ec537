-- A table: its rows, or the line of the first that is none.
use Rattle.std.specs.Prelude.{◌≡◌, true, false, List, [], ◌∷◌, ◌++◌, ℕ, zero, suc, ◌+◌, ◌*◌, ◌≤◌, ℤ, length, take, drop, Some, None, Result, Ok, Err, IfOk}
use Rattle.aries.specs.Text.{lines}
use Rattle.tables.specs.declared.row.Row.{Row}
use Rattle.tables.specs.declared.BadLine.{BadLine}
use Rattle.tables.specs.Rows.{is_blank, row_of}

-- what a text comes to: its rows, or the line of the first that is neither blank nor a row, or of a row too many
abbrev pub Told : Type 0
Told = Result (List Row) BadLine

-- a row, and what comes after it
abbrev pub with_row : Row → Told → Told
with_row row (Ok rows) = Ok (row ∷ rows)
with_row row (Err bad) = Err bad

-- lines, the first with a number, with places for so many rows
unfoldable pub rows_from : ℕ → ℕ → List (List ℕ) → Told
unfolding row_of
rows_from places line [] = Ok []
rows_from places line (l ∷ ls) = elim (is_blank l) [
  | true ↦ rows_from places (suc line) ls
  | false ↦ elim (row_of l) [
    | None ↦ Err (record { line = line })
    | Some row ↦ elim places [
      | zero ↦ Err (record { line = line })
      | suc left ↦ with_row row (rows_from left (suc line) ls)
    ]
  ]
]

-- The table of a text, with places for so many rows.
unfoldable pub table_of : ℕ → List ℕ → Told
unfolding rows_from lines
table_of places text = rows_from places 1 (lines text)

-- ---- What reading it answers

-- the three numbers of a row
abbrev pub numbers_of : Row → List ℤ
numbers_of r = r.x ∷ r.y ∷ r.tool ∷ []

-- those of all rows, one after another
abbrev pub table_numbers : List Row → List ℤ
table_numbers [] = []
table_numbers (r ∷ rs) = numbers_of r ++ table_numbers rs

-- how many rows are told
abbrev pub answer_of : Told → Result ℕ BadLine
answer_of (Ok rows) = Ok (length rows)
answer_of (Err bad) = Err bad

-- The answer, and the numbers of the rows at the front of the lent table. What it holds behind them is free.
pub record Reads (answer : Result ℕ BadLine) (table : List ℤ) (told : Told) : Type 0 where
  pub answered : answer ≡ answer_of told
  pub read : IfOk told (λ rows. take (3 * length rows) table ≡ table_numbers rows)
  pub within : IfOk told (λ rows. 3 * length rows ≤ length table)

-- a row put behind others
abbrev pub with_numbers : List ℤ → ℕ → Row → List ℤ
with_numbers table n r = take (3 * n) table ++ numbers_of r ++ drop (3 * n + 3) table
