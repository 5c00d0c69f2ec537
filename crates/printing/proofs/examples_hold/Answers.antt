-- By computation.
use mathlib.Core.Path.{refl}
use Rattle.aries.specs.Text.{bytes}
use Rattle.printing.specs.Decimals.{digits, decimal, signed_decimal}
use Rattle.printing.specs.Listing.{lines_of, entry_line, tool_line, head_line, refusal_line, listing}
use Rattle.printing.proofs.examples_hold.Goals as goal

pub returns : goal.returns
unfolding bytes digits decimal signed_decimal lines_of entry_line tool_line head_line refusal_line listing
returns c = record { refusal = refl; nibbled = refl; empty = refl }
