-- The letters that stand in the block are counted, as std counts.
use Rattle.std.proofs.Common.{rules, ◌≡◌}
use Rattle.std.specs.Prelude.{count_by}
use Rattle.std.proofs.lemmas.List.Sums.{count_by-le-length}
use Rattle.aries.specs.ByLetter.{Letters, has}
use Rattle.blocks.proofs.Counting.{passing-count}
use Rattle.blocks.proofs.letters.count.Goals as goal

pub returns : goal.returns
returns c =
    let w : Letters = c.args.words.now.letters in
    let letters = c.args.letters.now in
    let counted : c.count.result ≡ count_by (has w) letters = search rules in
    rw counted (record { value = rw (passing-count (has w) letters); bound = count_by-le-length (has w) letters })
