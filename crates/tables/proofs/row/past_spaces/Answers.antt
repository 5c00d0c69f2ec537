-- The spaces are counted, and the rest of the line is all that stands behind them.
use Rattle.std.proofs.Common.{◌≡◌, eqb, rules, tests}
use Rattle.std.proofs.lemmas.Iterator.{YieldsList-from_slice}
use Rattle.std.proofs.lemmas.Iterator.Consumers.{count_from_yields_List}
use Rattle.std.proofs.lemmas.Iterator.Search.{YieldsList-from_take_while}
use Rattle.std.proofs.lemmas.List.{take_rest}
use Rattle.aries.specs.Text.{space}
use Rattle.tables.specs.Rows.{spaces}
use Rattle.tables.proofs.row.past_spaces.Goals as goal

pub returns : goal.returns
returns c =
    let line = c.args.line.now in
    let counted : c.count-spaces.result ≡ spaces line =
    count_from_yields_List c.take_while.result _ c.count-spaces.ensures.ran
    (YieldsList-from_take_while _ (λ b. eqb b space) (YieldsList-from_slice line cc) c.take_while.ensures.closure
    c.take_while.ensures.done
    (λ x b q k. search (rules, tests))) in
    rw (counted, take_rest line (spaces line))
