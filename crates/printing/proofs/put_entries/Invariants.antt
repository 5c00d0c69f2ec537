-- The lines of the entries that are left have room.
use Rattle.std.proofs.Common.{suc, ◌*◌, ◌≤◌}
use Rattle.printing.specs.Listing.{entry_line, entry_lines, longest_line}
use Rattle.printing.proofs.Lines.{Left}
use Rattle.printing.proofs.put_entries.Given as goal

abbrev pub invariant-loop-i : goal.invariant-loop-i
invariant-loop-i l =
    record {
      left : Left (entry_line l.list) l.i (entry_lines l.list l.count) l.initial.out l.end l.out;
      room : longest_line * suc l.i ≤ l.end;
    }
