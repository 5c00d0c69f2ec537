-- The invariant: the rows so far are at the front of the table, and with what the parts that are left come to, all is told.
use Rattle.std.proofs.Common.{◌+◌, ◌/◌, length, drop}
use Rattle.tables.specs.Tables.{table_of}
use Rattle.tables.proofs.Tables.{ReadsOn}
use Rattle.tables.proofs.Parts.{parts}
use Rattle.tables.proofs.read_table.Given as goal

abbrev pub invariant-loop-before : goal.invariant-loop-before
invariant-loop-before l =
    ReadsOn (table_of (length l.fn.table / 3) l.text) l.table (length l.fn.table / 3) l.rows (length l.yielded + 1)
    (drop (length l.yielded) (parts l.text))
