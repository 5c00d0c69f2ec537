-- By what comes next.
use Rattle.std.specs.Prelude.{Err}
use mathlib.Core.Path.{◌≡◌, refl}
use borrow.Author.Rules.{rules}
use Rattle.aries.specs.Runs.{lent_both}
use Rattle.program.proofs.Underway.{underway_start, underway_end, turn-refused, turn-line, next-refused, next-passed}
use Rattle.program.proofs.lines.run_text.Goals as goal

pub loop-from-init : goal.loop-from-init
loop-from-init c =
    let a = c.args in
    rw c.fresh-program.ensures (underway_start a.job (lent_both a.list.now a.tally.now) a.text.now)

pub returns-in_err-next : goal.returns-in_err-next
returns-in_err-next c =
    let e : c.from_residual.result ≡ Err c.in_err-next.field-0.0 = search rules in
    rw e (turn-refused c.loop-from.invariant c.in_err-next.ensures)

-- lines
pub loop-from-preserved-in-Line : goal.loop-from-preserved-in-Line
loop-from-preserved-in-Line c = turn-line c.loop-from.invariant c.in_ok-next.ensures c.in-Line.is

-- a block that runs stored bodies
pub returns-in_err-run_called-in-Run : goal.returns-in_err-run_called-in-Run
returns-in_err-run_called-in-Run c =
    let done = c.in_err-run_called-in-Run in
    let e : c.from_residual-in_err-run_called-in-Run.result ≡ Err done.field-0.0 = search rules in
    rw e (next-refused c.loop-from.invariant c.in_ok-next.ensures c.in-Run.is refl done.ensures)

pub loop-from-preserved-in_ok-run_called-in-Run : goal.loop-from-preserved-in_ok-run_called-in-Run
loop-from-preserved-in_ok-run_called-in-Run c = next-passed c.loop-from.invariant c.in_ok-next.ensures c.in-Run.is refl c.in_ok-run_called-in-Run.ensures

-- a U line
pub returns-in_err-open-in-Open : goal.returns-in_err-open-in-Open
returns-in_err-open-in-Open c =
    let done = c.in_err-open-in-Open in
    let e : c.from_residual-in_err-open-in-Open.result ≡ Err done.field-0.0 = search rules in
    rw e (next-refused c.loop-from.invariant c.in_ok-next.ensures c.in-Open.is refl done.ensures)

pub loop-from-preserved : goal.loop-from-preserved
loop-from-preserved c = next-passed c.loop-from.invariant c.in_ok-next.ensures c.in-Open.is refl c.in_ok-open-in-Open.ensures

-- the end of the text
pub returns : goal.returns
returns c = underway_end c.loop-from.invariant c.loop-from-test.false
