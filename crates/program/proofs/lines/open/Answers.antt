-- What the U line leaves.
use Rattle.std.specs.Prelude.{Ok, Err}
use mathlib.Core.Path.{◌≡◌}
use borrow.Author.Rules.{rules}
use Rattle.aries.specs.Bodies.{with_stored}
use Rattle.program.proofs.Called.{carries_opened}
use Rattle.program.proofs.lines.open.Goals as goal

pub returns-in_err-open_body : goal.returns-in_err-open_body
returns-in_err-open_body c =
    let a = c.args in
    let new = c.open_body.new in
    let e : c.from_residual.result ≡ Err c.in_err-open_body.field-0.0 = search rules in
    rw e (carries_opened a.text.now a.end a.program.now {A = Unit {0}} a.number (Err c.in_err-open_body.field-0.0) (with_stored new.macros new.progress) c.in_err-open_body.ensures.opens tt)

pub returns : goal.returns
returns c =
    let a = c.args in
    let new = c.open_body.new in
    let left = c.in_ok-open_body in
    carries_opened a.text.now a.end a.program.now a.number (Ok left.field-0) (with_stored new.macros new.progress) left.ensures.opens left.ensures.given_near
