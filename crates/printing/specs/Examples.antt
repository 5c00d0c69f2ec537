-- What is printed: M1 of document 01 from its text on, with the tools of document 02, and a refusal; and what these do not show, a
-- number below zero, mode N and no entry. M00 and M01 of document 02, and tools in turn, from texts on.
use Rattle.std.specs.Prelude.{◌≡◌, [], ◌∷◌, pos, negsuc, Ok}
use Rattle.aries.specs.declared.refusal.Refusal.TheVariants.{OutOfRange}
use Rattle.aries.specs.Outcome.{refused}
use Rattle.aries.specs.Plates.{numbers}
use Rattle.aries.specs.Program.{expand}
use Rattle.aries.specs.Tally.{no_tally}
use Rattle.aries.specs.Text.{bytes}
use Rattle.printing.specs.Listing.{listing, printed}

-- ---- M1

-- its four lines, at setting 1 and with the list that the program hitlist lends
abbrev pub PlatePrinted : Type 0
PlatePrinted =
    printed numbers (expand (pos 1) (bytes "G92 X600. Y600.\nG90 X100. Y100. T2\nG28 I10. J45. K2\nG50\n") numbers)
    ≡ bytes "ENTRIES 3\n1 10000 10000 2 P\n2 10707 10707 2 P\n3 11414 11414 2 P\n2 3 1 3\n"

-- ---- M00 and M01

-- stops before and after a hit
abbrev pub StopsPrinted : Type 0
StopsPrinted =
    printed numbers (expand (pos 1) (bytes "G92 X600. Y600.\nM00\nX100. Y100. T2\nM01\nG50\n") numbers)
    ≡ bytes "ENTRIES 3\n1 0 0 0 S\n2 10000 10000 2 P\n3 0 0 0 O\n2 1 2 2\n"

-- ---- Tools

pub record ToolsPrinted : Type 0 where
  -- two tools in turn, with stops between: the lines are in tool order, and a stop takes an index but counts for no tool
  pub in_turn :
      printed numbers (expand (pos 1) (bytes "G92 X600. Y600.\nX10. Y10. T5\nM00\nX20. T3\nM01\nX30.\nX40. T5\nG50\n") numbers)
      ≡ bytes "ENTRIES 6\n1 1000 1000 5 P\n2 0 0 0 S\n3 2000 1000 3 P\n4 0 0 0 O\n5 3000 1000 3 P\n6 4000 1000 5 P\n3 2 3 5\n5 2 1 6\n"
  -- the last tool
  pub last :
      printed numbers (expand (pos 1) (bytes "G92 X600. Y600.\nX10. Y10. T99\nG50\n") numbers)
      ≡ bytes "ENTRIES 1\n1 1000 1000 99 P\n99 1 1 1\n"

-- ---- Other listings

pub record Examples : Type 0 where
  pub refusal : listing (refused OutOfRange 3) [] no_tally ≡ bytes "REFUSED 16 LINE 3\n"
  pub nibbled : listing (Ok 1) (negsuc 1019 ∷ pos 0 ∷ pos 1 ∷ pos 1 ∷ []) (1 ∷ 1 ∷ 1 ∷ []) ≡ bytes "ENTRIES 1\n1 -1020 0 1 N\n1 1 1 1\n"
  pub empty : listing (Ok 0) [] no_tally ≡ bytes "ENTRIES 0\n"
