-- The entries, with what they leave of the list cleared; or the refusal of what was carried out, or of a missing G50.
use mathlib.Core.Path.{◌≡◌}
use mathlib.Core.Bool.{true, false}
use borrow.Author.Rules.{rules}
use native.Mathlib.Omega.{arith}
use lib.ListN.{length}
use Rattle.aries.specs.Program.{is_ended}
use Rattle.aries.specs.Text.{lines}
use Rattle.aries.proofs.Runs.{ran_as}
use Rattle.tolkjirp.proofs.Endings.{accepts-refused, perform-unended, perform-accepts}
use Rattle.tolkjirp.proofs.perform.Goals as goal

pub returns-then-ne : goal.returns-then-ne
returns-then-ne c =
    let a = c.args in
    let r = c.run_text in
    let ran = ran_as c.in_ok-left.was (rw (c.lending-job.ensures, c.clear.ensures) at r.ensures) in
    let unended : is_ended c.in_ok-left.left.stage ≡ false = search rules in
    rw (c.at.ensures, c.count_lines.ensures)
    (accepts-refused (perform-unended a.setting a.list.now r.new.list r.new.tally a.text.now (length (lines a.whole.now)) ran unended))

pub returns : goal.returns
returns c =
    let a = c.args in
    let r = c.run_text in
    let ran = ran_as c.in_ok-left.was (rw (c.lending-job.ensures, c.clear.ensures) at r.ensures) in
    let ended : is_ended c.in_ok-left.left.stage ≡ true = search rules in
    perform-accepts a.setting a.list.now r.new.list r.new.tally a.text.now (length (lines a.whole.now)) ran c.clear_from.new.list ended r.auto.list (omega (arith, c.well_formed)) c.clear_from.ensures
