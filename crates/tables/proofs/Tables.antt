-- Laws of tables: what one line more comes to, and what is read before it.
use mathlib.Core.Path.{◌≡◌, refl, sym, ap, ◌∙◌}
use mathlib.Core.Bool.{true, false}
use mathlib.Core.List.{List, [], ◌∷◌, ◌++◌, append_assoc, append-nil}
use Prim.Native.Nat.{ℕ, suc, ◌+◌, ◌-◌, ◌*◌, ◌≤◌, ◌<◌}
use native.Mathlib.Numerals.{add-one}
use native.Mathlib.Omega.{arith}
use lib.IntN.{ℤ}
use lib.ListN.{length, take, drop, length-append, length-take}
use Rattle.std.specs.Prelude.{Some, None, Ok, Err}
use Rattle.std.proofs.lemmas.List.{take_at}
use Rattle.tables.specs.declared.row.Row.{Row}
use Rattle.tables.specs.declared.BadLine.{BadLine}
use Rattle.tables.specs.Rows.{is_blank, row_of}
use Rattle.tables.specs.Tables.{Told, with_row, rows_from, numbers_of, table_numbers, Reads, with_numbers}

-- ---- one line more

module _ (l : List ℕ) (ls : List (List ℕ)) (line : ℕ) where
  pub blank_step : (places : ℕ) → is_blank l ≡ true → rows_from places line (l ∷ ls) ≡ rows_from places (suc line) ls
  unfolding rows_from
  blank_step places b = rw (rows_from, b)

  pub bad_step :
      (places : ℕ) → is_blank l ≡ false → row_of l ≡ None → rows_from places line (l ∷ ls) ≡ Err (record { line = line })
  unfolding rows_from
  bad_step places b r = rw (rows_from, b, r)

  pub full_step :
      (row : Row) → is_blank l ≡ false → row_of l ≡ Some row → rows_from 0 line (l ∷ ls) ≡ Err (record { line = line })
  unfolding rows_from
  full_step row b r = rw (rows_from, b, r)

  pub row_step :
      (row : Row) (left : ℕ) → is_blank l ≡ false → row_of l ≡ Some row
      → rows_from (suc left) line (l ∷ ls) ≡ with_row row (rows_from left (suc line) ls)
  unfolding rows_from
  row_step row left b r = rw (rows_from, b, r)

-- ---- rows that were read before

-- these rows, and what comes after them
abbrev pub with_rows : List Row → Told → Told
with_rows rs (Ok more) = Ok (rs ++ more)
with_rows rs (Err bad) = Err bad

with_rows_none : (told : Told) → with_rows [] told ≡ told
with_rows_none (Ok more) = refl
with_rows_none (Err bad) = refl

with_rows_row : (rs : List Row) (r : Row) (told : Told) → with_rows (rs ++ r ∷ []) told ≡ with_rows rs (with_row r told)
with_rows_row rs r (Ok more) = ap Ok (append_assoc rs (r ∷ []) more)
with_rows_row rs r (Err bad) = refl

table_numbers-row : (rs : List Row) (r : Row) → table_numbers (rs ++ r ∷ []) ≡ table_numbers rs ++ numbers_of r
table_numbers-row [] r = refl
table_numbers-row (q ∷ rs) r = ap (λ (t : List ℤ). numbers_of q ++ t) (table_numbers-row rs r)

-- a row is put behind the others
pub row_put :
    (table : List ℤ) (n : ℕ) (r : Row) → 3 * n + 3 ≤ length table
    → take (3 * (n + 1)) (with_numbers table n r) ≡ take (3 * n) table ++ numbers_of r
row_put table n r h =
    take_at (take (3 * n) table ++ numbers_of r) (drop (3 * n + 3) table) (3 * (n + 1)) (simp (length-append, length-take) (omega arith))

-- What is told of a text is that these rows are read, whose numbers are at the front of the table, and then what the lines that
-- are left come to, the first with a number.
pub record ReadsOn (told : Told) (table : List ℤ) (places rows line : ℕ) (left : List (List ℕ)) : Type 0 where
  pub read : List Row
  pub count : length read ≡ rows
  pub numbers : take (3 * rows) table ≡ table_numbers read
  pub within : rows ≤ places
  pub goes_on : with_rows read (rows_from (places - rows) line left) ≡ told

-- nothing is read
pub reads_none :
    (told : Told) (table : List ℤ) (places : ℕ) (left : List (List ℕ)) → rows_from places 1 left ≡ told
    → ReadsOn told table places 0 1 left
reads_none told table places left e =
    let all : places - 0 ≡ places = omega arith in
    record {
      read = [];
      count = refl;
      numbers = refl;
      within = omega arith;
      goes_on = rw (with_rows_none, all) e;
    }

-- a text is told to be bad
pub reads_bad : (bad : BadLine) (table : List ℤ) (told : Told) → Err bad ≡ told → Reads (Err bad) table told
reads_bad bad table told e = rw (← e) (record { answered = refl; read = tt; within = tt })

module _ {told : Told} {table : List ℤ} {places rows line : ℕ} {left : List (List ℕ)} (so_far : ReadsOn told table places rows line left) where
  -- no line is left
  pub reads_all : left ≡ [] → 3 * places ≤ length table → Reads (Ok rows) table told
  unfolding rows_from
  reads_all e h =
      let all : Ok so_far.read ≡ told = ap Ok (sym (append-nil so_far.read)) ∙ rw e at so_far.goes_on in
      rw (← all)
      (record {
        answered = ap Ok (sym so_far.count);
        read = rw so_far.count so_far.numbers;
        within = omega (arith, so_far.count, so_far.within);
      })

  -- what is left is told to be bad
  told_bad : (bad : BadLine) → rows_from (places - rows) line left ≡ Err bad → Err bad ≡ told
  told_bad bad e = sym (ap (with_rows so_far.read) e) ∙ so_far.goes_on

  pub left_bad : (bad : BadLine) → rows_from (places - rows) line left ≡ Err bad → Reads (Err bad) table told
  left_bad bad e = reads_bad bad table told (told_bad bad e)

  module _ (l : List ℕ) (ls : List (List ℕ)) (next : left ≡ l ∷ ls) where
    pub past_blank : is_blank l ≡ true → ReadsOn told table places rows (line + 1) ls
    past_blank b =
        record {
          read = so_far.read;
          count = so_far.count;
          numbers = so_far.numbers;
          within = so_far.within;
          goes_on = rw (add-one line, ← blank_step l ls line (places - rows) b, ← next) so_far.goes_on;
        }

    pub at_bad : is_blank l ≡ false → row_of l ≡ None → Reads (Err (record { line = line })) table told
    at_bad b r = left_bad (record { line = line }) (rw next (bad_step l ls line (places - rows) b r))

    module _ (row : Row) (b : is_blank l ≡ false) (r : row_of l ≡ Some row) where
      pub at_many : places ≤ rows → ◌≡◌ {A = Told} (Err (record { line = line })) told
      at_many h =
          let none : places - rows ≡ 0 = omega arith in
          told_bad (record { line = line }) (rw (none, next) (full_step l ls line row b r))

      pub reads_many : rows ≡ places → Reads (Err (record { line = line })) table told
      reads_many e = reads_bad (record { line = line }) table told (at_many (omega arith))

      pub past_row :
          rows < places → 3 * places ≤ length table → ReadsOn told (with_numbers table rows row) places (rows + 1) (line + 1) ls
      past_row h room =
          let one : places - rows ≡ suc (places - (rows + 1)) = omega arith in
          record {
            read = so_far.read ++ row ∷ [];
            count = simp length-append (omega (arith, so_far.count));
            numbers = rw (row_put table rows row (omega arith), table_numbers-row, so_far.numbers);
            within = omega arith;
            goes_on =
                rw (with_rows_row, add-one line, ← row_step l ls line row (places - (rows + 1)) b r, ← one, ← next)
                so_far.goes_on;
          }
