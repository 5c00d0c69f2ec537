-- What a place between two lines of a text leads to.
use Rattle.std.specs.Prelude.{◌≡◌, cond, List, ℕ, ◌+◌, ◌-◌, ◌<◌, ltb, length, drop, get_or, Option, Some, None}
use Rattle.aries.specs.declared.location.Location.{Location}
use Rattle.aries.specs.declared.reader.Reader.{Reader}
use Rattle.aries.specs.Text.{line_feed}
use Rattle.text.specs.Lines.{blanks}
use Rattle.decode.specs.Decoding.{decoded_at}
use Rattle.stretches.specs.declared.Ahead.{Ahead}
use Rattle.stretches.specs.declared.Lines.{Lines}

-- a block at a place of a text, if the text has that place
abbrev pub block_ahead : Reader → List ℕ → Location → Option Ahead
block_ahead r t at = cond (ltb at.offset (length t)) (Some (record { at = at; decoded = decoded_at r t at.offset })) None

-- the place past the empty lines, which count as lines
abbrev pub past_blanks : List ℕ → Location → Location
past_blanks t from = record { offset = from.offset + blanks (drop from.offset t); line = from.line + blanks (drop from.offset t) }

-- from a place on: past the empty lines
unfoldable pub ahead : Reader → List ℕ → Location → Option Ahead
ahead r t from = block_ahead r t (past_blanks t from)

-- the numbers of the lines from a place on fit 64 bits
abbrev pub LinesFit : Location → List ℕ → Type 0
LinesFit from t = from.line + (length t - from.offset) < 18446744073709551616

-- a block that is ahead, in a line whose number fits
pub record Known (r : Reader) (t : List ℕ) (x : Ahead) : Type 0 where
  pub inside : x.at.offset < length t
  pub block : get_or t x.at.offset 0 ≡ line_feed → ⊥
  pub decoded : x.decoded ≡ decoded_at r t x.at.offset
  pub fits : LinesFit x.at t

-- lines whose first block has been read
pub record Read (r : Reader) (l : Lines) : Type 0 where
  pub fits : LinesFit l.from l.text.now
  pub first : l.first ≡ ahead r l.text.now l.from
