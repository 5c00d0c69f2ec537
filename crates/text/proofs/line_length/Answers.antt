-- The first line feed's place, or the length.
use Rattle.std.proofs.Common.{refl, rules}
use borrow.Author.Tests.{tests}
use Rattle.std.proofs.lemmas.Iterator.{YieldsList-from_slice}
use Rattle.std.proofs.lemmas.Iterator.Search.{position_from_yields_List}
use Rattle.text.specs.Lines.{is_feed, line_length}
use Rattle.text.proofs.Lines.{first_place}
use Rattle.text.proofs.line_length.Goals as goal

pub returns : goal.returns
unfolding line_length
returns c =
    let t = c.args.text.now in
    let found = position_from_yields_List is_feed _ _ c.position.result c.position.ensures.ran (YieldsList-from_slice t c.iter.ensures.rest) (λ x b q k. search (rules, tests)) in
    first_place is_feed t found c.unwrap_or.ensures refl
