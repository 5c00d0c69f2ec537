use Rattle.std.proofs.Common.{◌∙◌, sym}
use Rattle.text.proofs.Cleaning.{stray_none, place_found, place_none}
use Rattle.text.proofs.stray_line.Goals as goal

pub returns-then-all_allowed : goal.returns-then-all_allowed
returns-then-all_allowed c = sym ((stray_none 1 c.args.text.now (sym c.all_allowed.ensures ∙ c.if-all_allowed.true)))

pub returns-in_err-place : goal.returns-in_err-place
returns-in_err-place c = c.from_residual.ensures ∙ place_none c.args.text.now (sym c.stray_place.ensures ∙ c.in_err-place.was)

pub returns : goal.returns
returns c =
    let t = c.args.text.now in
    rw c.count_feeds.ensures (place_found t c.in_ok-place.place (sym c.stray_place.ensures ∙ c.in_ok-place.was))
