-- Chunk by chunk.
use Rattle.std.proofs.Common.{◌/◌, length, not, ap, rules}
use borrow.Author.Tests.{tests}
use Rattle.std.proofs.lemmas.Iterator.{YieldsList-from_slice}
use Rattle.std.proofs.lemmas.Iterator.Search.{position_from_yields_List}
use Rattle.std.specs.Simd.{first_chunks}
use Rattle.text.proofs.Lines.{first_place, is_passed, blanks_passed}
use Rattle.text.proofs.count_blank_eights.Goals as goal

pub returns-clause-fewer : goal.returns-clause-fewer
returns-clause-fewer c =
    let t = c.args.text.now in
    let eights = first_chunks 8 (length t / 8) t in
    let found = position_from_yields_List (λ eight. not (is_passed eight)) _ _ c.position.result c.position.ensures.ran (YieldsList-from_slice eights (cc)) (λ x b q k. search (rules, tests)) in
    blanks_passed (length t / 8) c.unwrap_or.result t
    (first_place (λ eight. not (is_passed eight)) eights found c.unwrap_or.ensures (ap length c.as_chunks.ensures.front))
