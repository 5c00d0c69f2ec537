-- The eights, and then one by one.
use Rattle.std.proofs.Common.{◌∙◌, ◌*◌, ◌-◌, length, drop, ap, arith, rules, length-drop}
use Rattle.std.proofs.Math.Seq.{take_all}
use borrow.Author.Tests.{tests}
use Rattle.std.proofs.lemmas.Iterator.{YieldsList-from_slice}
use Rattle.std.proofs.lemmas.Iterator.Search.{position_from_yields_List}
use Rattle.text.specs.Lines.{is_other, blanks}
use Rattle.text.proofs.Lines.{first_place}
use Rattle.text.proofs.count_blanks.Goals as goal

pub returns : goal.returns
unfolding blanks
returns c =
    let t = c.args.text.now in
    let passed = 8 * c.count_blank_eights-passed.result in
    let rest = drop passed t in
    let whole = take_all (length t - passed) rest (omega (arith, length-drop passed t)) in
    let found = position_from_yields_List is_other _ _ c.position-past.result c.position-past.ensures.ran (YieldsList-from_slice rest (c.iter.ensures.rest ∙ whole)) (λ x b q k. search (rules, tests)) in
    let n = first_place is_other rest found c.unwrap_or.ensures (ap length whole) in
    omega (arith, c.count_blank_eights-passed.ensures.fewer)
