-- Demand 1, of refusals: their numbers, and their lines in the text that is refused.
use Rattle.std.specs.Prelude.{◌≡◌, ◌↔◌, List, ℕ, ◌≤◌, ℤ, length, Err}
use Rattle.aries.specs.declared.refusal.Refused.{Refused}
use Rattle.aries.specs.Outcome.{refusal_number}
use Rattle.aries.specs.Text.{lines}
use Rattle.aries.specs.Program.{expand}

-- A refusal's number is from 1 to 18; its line is 0 exactly for 1, and else from 1 to the number of lines.
pub record RefusalOf (text : List ℕ) (number line : ℕ) : Type 0 where
  pub numbered : (1 ≤ number) × (number ≤ 18)
  pub lineless : (line ≡ 0) ↔ (number ≡ 1)
  pub lined : (number ≡ 1 → ⊥) → (1 ≤ line) × (line ≤ length (lines text))

-- Every refusal of a text, at every setting and with a lent list of so many numbers, is such a one.
abbrev pub RefusalsNamed : Type 0
RefusalsNamed =
    (setting : ℤ) (text : List ℕ) (numbers : ℕ) (e : Refused) → expand setting text numbers ≡ Err e → RefusalOf text (refusal_number e.refusal) e.line
