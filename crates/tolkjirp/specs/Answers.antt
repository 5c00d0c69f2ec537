-- What the expander promises: its answer, the lent list and the lent tally, against the definitions.
use Rattle.std.specs.Prelude.{◌≡◌, List, ℕ, ℤ, Ok}
use Rattle.aries.specs.Outcome.{Out}
use Rattle.aries.specs.declared.entry.Entry.{Entry}
use Rattle.aries.specs.Program.{answer_of, list_of, tally_for}

-- The answer, the list of so many numbers and the tally are those of the entries, or of the refusal.
pub record Answers (answer : Out ℕ) (list : List ℤ) (tally : List ℕ) (numbers : ℕ) (out : Out (List Entry)) : Type 0 where
  pub answered : answer ≡ answer_of out
  pub listed : list ≡ list_of numbers out
  pub tallied : tally ≡ tally_for out

-- The same where the text is accepted; after a refusal list and tally are free, until they are cleared.
pub record Accepts (answer : Out ℕ) (list : List ℤ) (tally : List ℕ) (numbers : ℕ) (out : Out (List Entry)) : Type 0 where
  pub answered : answer ≡ answer_of out
  pub listed : (entries : List Entry) → out ≡ Ok entries → list ≡ list_of numbers out
  pub tallied : (entries : List Entry) → out ≡ Ok entries → tally ≡ tally_for out
