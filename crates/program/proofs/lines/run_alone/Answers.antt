-- By what is ahead.
use Rattle.std.specs.Prelude.{Err}
use mathlib.Core.Path.{◌≡◌, sym, ◌∙◌}
use borrow.Author.Rules.{rules}
use Rattle.aries.specs.Setup.{ordinary_frame}
use Rattle.turns.specs.Turns.{left_at}
use Rattle.program.proofs.Alone.{leads-end, ahead-known, ahead-refused, ahead_begun}
use Rattle.program.proofs.lines.run_alone.Goals as goal

pub returns-in_default : goal.returns-in_default
returns-in_default c =
    let a = c.args in
    rw c.text_end.ensures
    (leads-end a.text.now a.from a.program.now c.requires.0 (rw (c.reader_of-reader.ensures, c.frame.ensures) at (sym c.look_ahead.ensures ∙ c.in_default.is)))

pub begin-requires : goal.begin-requires
begin-requires c =
    let a = c.args in
    (ahead-known a.text.now a.from a.program.now c.requires.0 c.requires.1 (rw (c.reader_of-reader.ensures, c.frame.ensures) at (sym c.look_ahead.ensures ∙ c.in-Some.is))).inside

pub returns-in_err-block : goal.returns-in_err-block
returns-in_err-block c =
    let a = c.args in
    let i = c.requires in
    let is = rw (c.reader_of-reader.ensures, c.frame.ensures) at (sym c.look_ahead.ensures ∙ c.in-Some.is) in
    let e : c.from_residual.result ≡ Err c.in_err-block.field-0.0 = search rules in
    λ l.
    rw e (ahead-refused a.text.now a.from a.program.now i.0 i.1 is (sym (c.in_err-block.ensures (ordinary_frame a.program.now.setup) (ahead-known a.text.now a.from a.program.now i.0 i.1 is))))

pub returns : goal.returns
returns c =
    let a = c.args in
    let i = c.requires in
    let is = rw (c.reader_of-reader.ensures, c.frame.ensures) at (sym c.look_ahead.ensures ∙ c.in-Some.is) in
    ahead_begun a.text.now a.from a.program.now i.0 i.1 is (left_at c.start.result c.start.new.program)
    (sym (c.in_ok-block.ensures (ordinary_frame a.program.now.setup) (ahead-known a.text.now a.from a.program.now i.0 i.1 is))) c.start.ensures.settles
