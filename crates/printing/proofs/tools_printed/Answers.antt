-- By computation.
use mathlib.Core.Path.{refl}
use Rattle.aries.specs.Text.{bytes}
use Rattle.aries.specs.Program.{expand, list_of, tally_for}
use Rattle.printing.specs.Decimals.{digits, decimal, signed_decimal}
use Rattle.printing.specs.Listing.{lines_of, entry_line, tool_line, head_line, listing}
use Rattle.printing.proofs.tools_printed.Goals as goal

pub returns : goal.returns
unfolding bytes expand list_of tally_for digits decimal signed_decimal lines_of entry_line tool_line head_line listing
returns c = record { in_turn = refl; last = refl }
