-- What cleaning a text answers, and what it leaves in the buffer.
use Rattle.std.specs.Prelude.{◌≡◌, List, ℕ, length, take, Option, Some, None, Ok}
use Rattle.aries.specs.declared.refusal.Refusal.TheVariants.{StrayByte}
use Rattle.aries.specs.Outcome.{Out, refused}
use Rattle.aries.specs.Text.{stray_line, without_spaces}

-- the answer, from the line of the first stray byte, if there is one, and the bytes other than spaces
abbrev pub cleaned : Option ℕ → List ℕ → Out ℕ
cleaned (Some line) dense = refused StrayByte line
cleaned None dense = Ok (length dense)

-- A text, how many bytes were copied, and the buffer at exit. What it holds past the copy is free.
pub record Copied (text : List ℕ) (count : ℕ) (buffer : List ℕ) : Type 0 where
  pub counted : count ≡ length (without_spaces text)
  pub copied : take (length (without_spaces text)) buffer ≡ without_spaces text

-- A text, the answer, and the buffer at exit. What the buffer holds past the copy is free, and all of it where a byte
-- is stray.
pub record Clean (text : List ℕ) (answer : Out ℕ) (buffer : List ℕ) : Type 0 where
  pub answered : answer ≡ cleaned (stray_line 1 text) (without_spaces text)
  -- where no byte is stray, the buffer starts with the text without its spaces
  pub copied : stray_line 1 text ≡ None → take (length (without_spaces text)) buffer ≡ without_spaces text
