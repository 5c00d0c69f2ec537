-- Bytes put at the end of a buffer.
use Rattle.std.specs.Prelude.{◌≡◌, List, ℕ, ◌+◌, length, take, drop}

-- The bytes are the end of the buffer, from the answer on; nothing else of it has changed.
pub record Ends (bytes before : List ℕ) (start : ℕ) (after : List ℕ) : Type 0 where
  pub placed : start + length bytes ≡ length before
  pub written : drop start after ≡ bytes
  pub kept : take start after ≡ take start before
