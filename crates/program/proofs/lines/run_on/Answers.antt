-- What the stretch made, and then by what comes after it.
use Rattle.std.specs.Prelude.{Err, Some}
use mathlib.Core.Path.{◌≡◌, sym, ap, subst}
use borrow.Author.Rules.{rules}
use Rattle.aries.specs.declared.block.Block.{Block}
use Rattle.aries.specs.declared.setup.Stage.{Stage}
use Rattle.aries.specs.Outcome.{Out}
use Rattle.aries.specs.Program.{with_progress, at_stage}
use Rattle.stretches.specs.declared.Sequel.{Sequel}
use Rattle.turns.specs.Turns.{Turn, left_at, Settles}
use Rattle.program.proofs.Stretches.{stretch-refused, stretch-ended, stretch-called, stretch-settled}
use Rattle.program.proofs.lines.run_on.Goals as goal

pub returns-in_err-sequel : goal.returns-in_err-sequel
returns-in_err-sequel c =
    let a = c.args in
    let s = c.read-source.ensures in
    let e : c.from_residual.result ≡ Err c.in_err-sequel.field-0.0 = search rules in
    rw e (stretch-refused a.text.now a.from a.program.now c.requires.running (rw (c.frame-frame.ensures, s.same_text, s.same_place) at c.in_err-sequel.ensures))

pub returns-in-None : goal.returns-in-None
returns-in-None c =
    let a = c.args in
    let r = c.requires in
    let s = c.read-source.ensures in
    rw c.text_end.ensures
    (stretch-ended a.text.now a.from a.program.now r.running (rw (c.frame-frame.ensures, s.same_text, s.same_place) at c.in_ok-sequel.ensures) r.in_text r.near c.in-None.is)

pub returns-in-Some-Call : goal.returns-in-Some-Call
returns-in-Some-Call c =
    let a = c.args in
    let r = c.requires in
    let s = c.read-source.ensures in
    let b = c.in-Some-Call in
    let e : c.in_ok-sequel.sequel ≡ Some (Sequel.Call b.call b.end) = search rules in
    stretch-called a.text.now a.from a.program.now r.running (rw (c.frame-frame.ensures, s.same_text, s.same_place) at c.in_ok-sequel.ensures) r.in_text r.near e

pub returns-in-Some-Outside : goal.returns-in-Some-Outside
returns-in-Some-Outside c =
    let a = c.args in
    let r = c.requires in
    let s = c.read-source.ensures in
    let b = c.in-Some-Outside in
    let e : c.in_ok-sequel.sequel ≡ Some (Sequel.Outside b.outside b.end) = search rules in
    let left : Out Turn = left_at c.settle.result c.settle.new.program in
    -- the program runs, so that it is carried out as it stands
    let running = ap (λ (s : Stage). at_stage s (with_progress a.program.now c.run_stretch.new.progress)) (sym r.running) in
    stretch-settled a.text.now a.from a.program.now r.running (rw (c.frame-frame.ensures, s.same_text, s.same_place) at c.in_ok-sequel.ensures) r.in_text r.near e
    left (subst (Settles left b.end (Block.Outside b.outside)) running c.settle.ensures.settles)
