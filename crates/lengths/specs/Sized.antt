-- Words as a text has them: no number is larger than six digits can say. So are words in hundredths where none passes the limit
-- of setting 0.
use Rattle.std.specs.Prelude.{ℕ, ◌≤◌}
use Rattle.aries.specs.ByLetter.{Letters}
use Rattle.aries.specs.Blocks.{count}

-- no number of a block is larger in size than 999,999
pub record Sized (w : Letters) : Type 0 where
  pub each : (letter : ℕ) → count w letter ≤ 999999
