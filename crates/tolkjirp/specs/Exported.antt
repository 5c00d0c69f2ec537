-- What the exported expander promises: three numbers for the answer, the lent list and the lent tally, against the definitions.
use Rattle.std.specs.Prelude.{◌≡◌, List, [], ◌∷◌, ℕ, ℤ}
use Rattle.aries.specs.Outcome.{Out}
use Rattle.aries.specs.declared.entry.Entry.{Entry}
use Rattle.aries.specs.Program.{answer_of, number_of, count_of, line_of, list_of, tally_for}

-- the refusal's number or 0, the count of entries, the refusal's line
abbrev pub three_numbers : Out ℕ → List ℕ
three_numbers a = number_of a ∷ count_of a ∷ line_of a ∷ []

-- The numbers, the list and the tally are those of the entries, or of the refusal.
pub record Exported (answer : List ℕ) (list : List ℤ) (tally : List ℕ) (numbers : ℕ) (out : Out (List Entry)) : Type 0 where
  pub answered : answer ≡ three_numbers (answer_of out)
  pub listed : list ≡ list_of numbers out
  pub tallied : tally ≡ tally_for out
