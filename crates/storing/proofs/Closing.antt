-- The law of a U line's own V: by what its line is decoded to.
use Rattle.std.specs.Prelude.{Err, Ok, Result}
use mathlib.Core.Path.{◌≡◌, refl}
use mathlib.Core.Bool.{Bool, false}
use mathlib.Core.List.{List}
use Prim.Native.Nat.{ℕ}
use Rattle.aries.specs.declared.block.Instruction.{Instruction}
use Rattle.aries.specs.declared.reader.Reader.{Reader}
use Rattle.aries.specs.declared.refusal.Refusal.{Refusal}
use Rattle.aries.specs.Blocks.{decode}
use Rattle.aries.specs.Bodies.{closes, is_close_of, is_own_close}
use Rattle.text.specs.Lines.{line_at, line_end}
use Rattle.decode.specs.Decoding.{decoded_of, decoded_at}

-- what is decoded is the V line of number n
abbrev pub is_decoded_close : ℕ → Result (Instruction × ℕ) Refusal → Bool
is_decoded_close n (Ok x) = closes n x.0.block
is_decoded_close n (Err refusal) = false

pub own_decoded : (r : Reader) (n : ℕ) (t : List ℕ) (at : ℕ) → is_own_close r n (line_at t at) ≡ is_decoded_close n (decoded_at r t at)
unfolding is_own_close
own_decoded r n t at = go (decode r (line_at t at))
  where
    go : (d : Result Instruction Refusal) → is_close_of n d ≡ is_decoded_close n (decoded_of (line_end t at) d)
    go (Ok i) = refl
    go (Err refusal) = refl
