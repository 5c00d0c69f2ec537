-- The lines of the tools that are left have room.
use Rattle.std.proofs.Common.{◌+◌, ◌*◌, ◌≤◌, length}
use Rattle.aries.specs.Numbers.{last_tool}
use Rattle.printing.specs.Listing.{used_line, tool_lines, longest_line}
use Rattle.printing.proofs.Lines.{Left}
use Rattle.printing.proofs.tool.put_tools.Given as goal

abbrev pub invariant-loop-i : goal.invariant-loop-i
invariant-loop-i l =
    record {
      left : Left (used_line l.tally) l.i (tool_lines l.tally) l.initial.out l.end l.out;
      room : length l.initial.out + longest_line * l.i ≤ l.end + longest_line * last_tool;
    }
