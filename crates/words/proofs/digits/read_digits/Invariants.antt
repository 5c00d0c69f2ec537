-- The invariant: the value has as many digits as are counted, and the digits from here on, after those, are those from
-- the start.
use mathlib.Core.Path.{◌≡◌}
use Prim.Native.Nat.{◌+◌, ◌-◌, ◌^◌, ◌≤◌, ◌<◌}
use lib.ListN.{length, drop}
use Rattle.aries.specs.Words.{digits}
use Rattle.words.proofs.digits.read_digits.Given as goal

abbrev pub invariant-loop-count : goal.invariant-loop-count
invariant-loop-count l =
    (l.count ≤ length l.text - l.from)
    × (l.value < 10 ^ l.count)
    × (digits (l.most - l.count) l.value l.count (drop (l.from + l.count) l.text) ≡ digits l.most 0 0 (drop l.from l.text))
