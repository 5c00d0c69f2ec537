-- The invariant: the letters before here are in hundredths, and it is told of them.
use mathlib.Core.Path.{◌≡◌}
use lib.ListN.{take}
use Rattle.aries.specs.Test.{every}
use Rattle.lengths.specs.Hundredths.{fits, hundredths_put}
use Rattle.lengths.proofs.all_to_hundredths.Given as goal

abbrev pub invariant-loop-letter : goal.invariant-loop-letter
invariant-loop-letter l =
    (l.words ≡ hundredths_put l.initial.words (take l.letter-index l.letters))
    × (l.near ≡ every (fits l.initial.words.letters) (take l.letter-index l.letters))
