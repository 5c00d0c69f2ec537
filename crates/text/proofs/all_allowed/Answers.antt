-- The bytes one by one.
use Rattle.std.proofs.Common.{◌∙◌, rules, true, ◌&&◌}
use borrow.Author.Tests.{tests}
use Rattle.std.proofs.lemmas.Iterator.{YieldsList-from_slice}
use Rattle.std.proofs.lemmas.Iterator.Consumers.{fold_from_yields_List}
use Rattle.aries.specs.Text.{is_allowed}
use Rattle.text.proofs.Cleaning.{allowed_fold}
use Rattle.text.proofs.all_allowed.Goals as goal

pub returns : goal.returns
returns c =
    let t = c.args.text.now in
    fold_from_yields_List _ (λ p b. p && is_allowed b) true c.fold.result c.fold.ensures.ran (YieldsList-from_slice t (cc)) (λ a x b q k. search (rules, tests))
    ∙ allowed_fold true t
