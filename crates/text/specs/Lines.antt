-- How far a line goes, and how many empty lines stand at the front.
use Rattle.std.specs.Prelude.{Bool, false, not, List, ℕ, ◌+◌, ◌-◌, eqb, length, take, drop, slice_get}
use Rattle.std.specs.List.{position_or_len}
use Rattle.std.specs.Option.{option_map_or}
use Rattle.aries.specs.Text.{line_feed}

abbrev pub is_feed : ℕ → Bool
is_feed b = eqb b line_feed

-- a byte other than a line feed
abbrev pub is_other : ℕ → Bool
is_other b = not (is_feed b)

-- the bytes before the first line feed
unfoldable pub line_length : List ℕ → ℕ
line_length t = position_or_len is_feed t

-- the line feeds before the first other byte
unfoldable pub blanks : List ℕ → ℕ
blanks t = position_or_len is_other t

-- the line at a place of a text, and where it ends
abbrev pub line_at : List ℕ → ℕ → List ℕ
line_at t at = take (line_length (drop at t)) (drop at t)

abbrev pub line_end : List ℕ → ℕ → ℕ
line_end t at = at + line_length (drop at t)

-- another byte than a line feed is the last
abbrev pub ends_open : List ℕ → Bool
ends_open t = option_map_or is_other (slice_get t (length t - 1)) false
