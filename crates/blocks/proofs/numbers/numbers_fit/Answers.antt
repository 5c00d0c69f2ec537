-- Every row passes, as std tells it of a list.
use Rattle.std.proofs.Common.{rules, tests, ◌∙◌}
use Rattle.std.proofs.lemmas.Iterator.{YieldsList-from_slice}
use Rattle.std.proofs.lemmas.Iterator.Search.{all_from_yields_List}
use Rattle.aries.specs.ByLetter.{Letters}
use Rattle.aries.specs.Numbers.{number_fits}
use Rattle.blocks.specs.Ranges.{row_of}
use Rattle.blocks.proofs.Ranges.{every-rows}
use Rattle.blocks.proofs.numbers.numbers_fit.Goals as goal

pub returns : goal.returns
returns c =
    let w : Letters = c.args.words.now.letters in
    let rows = c.args.rows.now in
    let told = all_from_yields_List (λ r. number_fits w (row_of r)) _ _ c.all.result c.all.ensures.ran
    (YieldsList-from_slice rows cc) (λ x b q k. search (rules, tests)) in
    told ∙ every-rows (number_fits w) rows
