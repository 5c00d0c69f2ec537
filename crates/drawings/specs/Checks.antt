-- A list checked against a table: the answer, and what it means that they agree.
use Rattle.std.specs.Prelude.{◌≡◌, Option, None, Some, Result, Ok, Err, List, ℕ, ℤ}
use Rattle.drawings.specs.declared.hole.Hole.{Hole}
use Rattle.drawings.specs.declared.Mismatch.{Mismatch}
use Rattle.drawings.specs.declared.Mismatch.TheVariants.{Missing, TooMany}
use Rattle.drawings.specs.Holes.{table_holes, list_holes}
use Rattle.drawings.specs.Counts.{times, first_over}

-- the answer from the row and the entry found: rows come first
abbrev pub verdict : Option ℕ → Option ℕ → Result (Unit {0}) Mismatch
verdict (Some row) entry = Err (Missing row)
verdict None (Some entry) = Err (TooMany entry)
verdict None None = Ok tt

-- The first row that stands in the table more often than in the list, else the first entry that stands in the list more
-- often than in the table, else they agree. Rows and entries are counted from 1; stops count as entries.
abbrev pub checked : List ℤ → List ℤ → Result (Unit {0}) Mismatch
checked list table = verdict (first_over (table_holes table) (list_holes list)) (first_over (list_holes list) (table_holes table))

-- every hole stands in the table as often as in the list
abbrev pub EquallyOften : List ℤ → List ℤ → Type 0
EquallyOften list table = (h : Hole) → times h (table_holes table) ≡ times h (list_holes list)

-- A list and a table agree exactly if they are equal as multisets of holes.
pub record AgreeExactlyWhen : Type 0 where
  pub only_if : (list table : List ℤ) → checked list table ≡ Ok tt → EquallyOften list table
  pub if : (list table : List ℤ) → EquallyOften list table → checked list table ≡ Ok tt
