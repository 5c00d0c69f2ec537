-- By the ways through a U line.
use Rattle.std.specs.Prelude.{Err}
use mathlib.Core.Path.{◌≡◌, sym, ◌∙◌}
use borrow.Author.Rules.{rules}
use Rattle.aries.specs.declared.refusal.Refusal.TheVariants.{NotClosed}
use Rattle.aries.specs.Outcome.{refused}
use Rattle.aries.specs.Judging.{limits}
use Rattle.aries.specs.Macros.{part}
use Rattle.aries.proofs.Given.{first_run-near, left_near}
use Rattle.decode.proofs.NearCalls.{calls_near}
use Rattle.storing.proofs.Opening.{opens-unclosed, opens-full, opens-ran}
use Rattle.storing.proofs.open_body.Goals as goal

pub returns-in_err-size-clause-opens : goal.returns-in_err-size-clause-opens
returns-in_err-size-clause-opens c =
    let a = c.args in
    let size = rw (c.reader_of-reader.ensures, c.frame.ensures) at c.body_size.ensures.found in
    let e : c.from_residual.result ≡ refused NotClosed a.start.line = search rules in
    rw e (opens-unclosed a.text.now a.number a.start.offset a.start.line a.setup a.macros.now a.progress.now (sym size ∙ c.in_err-size.ensures.ok_part))

pub returns-then-characters-gt-MOST_CHARACTERS-clause-opens : goal.returns-then-characters-gt-MOST_CHARACTERS-clause-opens
returns-then-characters-gt-MOST_CHARACTERS-clause-opens c =
    let a = c.args in
    let size = rw (c.reader_of-reader.ensures, c.frame.ensures) at c.body_size.ensures.found in
    rw c.at.ensures
    (opens-full a.text.now a.number a.start.offset a.start.line a.setup a.macros.now a.progress.now (sym size ∙ c.in_ok-size.ensures.ok_part)
    c.storing-kept.ensures c.characters.ensures c.if-characters-gt-MOST_CHARACTERS.true)

pub returns-in_err-first_run-clause-opens : goal.returns-in_err-first_run-clause-opens
unfolding part
returns-in_err-first_run-clause-opens c =
    let a = c.args in
    let size = rw (c.reader_of-reader.ensures, c.frame.ensures) at c.body_size.ensures.found in
    let e : c.from_residual-in_err-first_run.result ≡ Err c.in_err-first_run.field-0.0 = search rules in
    rw e
    (opens-ran a.text.now a.number a.start.offset a.start.line a.setup a.macros.now a.progress.now (sym size ∙ c.in_ok-size.ensures.ok_part)
    c.storing-kept.ensures c.characters.ensures c.if-characters-gt-MOST_CHARACTERS.false c.in_err-first_run.ensures)

pub returns-clause-opens : goal.returns-clause-opens
unfolding part
returns-clause-opens c =
    let a = c.args in
    let size = rw (c.reader_of-reader.ensures, c.frame.ensures) at c.body_size.ensures.found in
    opens-ran a.text.now a.number a.start.offset a.start.line a.setup a.macros.now a.progress.now (sym size ∙ c.in_ok-size.ensures.ok_part)
    c.storing-kept.ensures c.characters.ensures c.if-characters-gt-MOST_CHARACTERS.false c.in_ok-first_run.ensures

pub returns-clause-given_near : goal.returns-clause-given_near
returns-clause-given_near c =
    let a = c.args in
    left_near _ c.in_ok-first_run.ensures (first_run-near calls_near (limits a.setup.job) a.text.now a.macros.now a.number _ a.setup a.progress.now c.requires.origin_value.1)
