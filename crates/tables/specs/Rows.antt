-- Lines of a table: blank ones and rows.
use Rattle.std.specs.Prelude.{Bool, cond, List, ℕ, eqb, length, drop, get_or, Option, Some, None}
use Rattle.std.specs.List.{take_while}
use Rattle.aries.specs.Text.{space}
use Rattle.tables.specs.declared.row.Row.{Row}
use Rattle.tables.specs.Numbers.{length_of, tool_of}

-- how many spaces stand at the front of a line
abbrev pub spaces : List ℕ → ℕ
spaces line = length (take_while (λ b. eqb b space) line)

-- a line without them
abbrev pub past_spaces : List ℕ → List ℕ
past_spaces line = drop (spaces line) line

-- the same of a line that starts with a space
abbrev pub parted : List ℕ → Option (List ℕ)
parted line = cond (eqb (get_or line 0 0) space) (Some (past_spaces line)) None

-- A blank line has spaces only.
abbrev pub is_blank : List ℕ → Bool
is_blank line = eqb (length (past_spaces line)) 0

-- what is read next, if something was read
abbrev pub ◌>>=◌ : {A B : Type 0} → Option A → (A → Option B) → Option B
◌>>=◌ None next = None
◌>>=◌ (Some a) next = next a

-- A row is a length, a length and a tool, with spaces between them; there may be more in front and behind.
unfoldable pub row_of : List ℕ → Option Row
unfolding length_of tool_of
row_of line = do
  (x, rest) ← length_of (past_spaces line)
  from_y ← parted rest
  (y, rest) ← length_of from_y
  from_tool ← parted rest
  (tool, rest) ← tool_of from_tool
  cond (is_blank rest) (Some (record { x = x; y = y; tool = tool })) None
