-- By the test for one block too many, and what decoding the line answers.
use Rattle.std.specs.Prelude.{Err}
use mathlib.Core.Path.{◌≡◌, sym, ◌∙◌}
use borrow.Author.Rules.{rules}
use Rattle.aries.proofs.InLine.{in_line-mapped}
use Rattle.stretches.proofs.Begins.{begin_at-spent, begin_at-decoded}
use Rattle.stretches.proofs.begin.Goals as goal

pub returns-then-counted-progress : goal.returns-then-counted-progress
returns-then-counted-progress c =
    let a = c.args in
    λ f known. rw c.at.ensures (sym (begin_at-spent f a.text.now a.ahead a.progress.now known c.if-counted-progress.true))

pub returns-in_err-instruction : goal.returns-in_err-instruction
returns-in_err-instruction c =
    let a = c.args in
    let told = in_line-mapped a.ahead.at.line a.ahead.decoded c.map_err.result c.map_err.ensures.cases (λ e y q. search rules) in
    let e : c.from_residual.result ≡ Err c.in_err-instruction.field-0.0 = search rules in
    λ f known. rw e (sym (begin_at-decoded f a.text.now a.ahead a.progress.now known c.if-counted-progress.false (sym told ∙ c.in_err-instruction.was)))

pub returns : goal.returns
returns c =
    let a = c.args in
    let told = in_line-mapped a.ahead.at.line a.ahead.decoded c.map_err.result c.map_err.ensures.cases (λ e y q. search rules) in
    λ f known.
    rw c.begun.ensures (sym (begin_at-decoded f a.text.now a.ahead a.progress.now known c.if-counted-progress.false (sym told ∙ c.in_ok-instruction.was)))
