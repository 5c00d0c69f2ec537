-- Each exit and each turn of the block runner is one of the laws of `Turns`, and those of the body runner are laws of `Called`.
use Rattle.std.specs.Prelude.{Err, Option}
use mathlib.Core.Path.{◌≡◌, sym, ap, ◌∙◌}
use Prim.Native.Nat.{ℕ}
use native.Mathlib.Omega.{arith}
use borrow.Author.Rules.{rules}
use Rattle.aries.specs.declared.refusal.Refusal.TheVariants.{NotStored}
use Rattle.aries.specs.Outcome.{refused}
use Rattle.aries.specs.Judging.{limits}
use Rattle.aries.specs.Macros.{Bodies, bodies_of, call, carry_call}
use Rattle.aries.proofs.Given.{carry_call-near, call-near, left_near}
use Rattle.aries.proofs.Runs.{ran-refused}
use Rattle.decode.proofs.NearCalls.{calls_near}
use Rattle.bodies.specs.declared.Body.{Body}
use Rattle.bodies.specs.Stored.{found_of}
use Rattle.bodies.proofs.Turns.{stretch_ends, lines_over, out_of_place, call_refused, call_passed, call_behind, call_near}
use Rattle.bodies.proofs.Called.{carry_missing, carry_deep, carry_body, begun_near, inner_steady}
use Rattle.bodies.proofs.+calls.Goals as goal

-- ---- The block runner

pub run_source-returns-in_err-sequel : goal.run_source-returns-in_err-sequel
run_source-returns-in_err-sequel t c =
    let a = c.args in
    let h = c.loop-sequel in
    let e : c.from_residual.result ≡ Err c.in_err-sequel.field-0.0 = search rules in
    rw e (stretch_ends h.rest a.frame h.progress _ h.invariant.leads c.in_err-sequel.ensures)

pub run_source-returns-in-Outside : goal.run_source-returns-in-Outside
run_source-returns-in-Outside t c =
    let a = c.args in
    let h = c.loop-sequel in
    rw c.at.ensures
    (out_of_place h.rest a.frame h.progress _ h.invariant.leads (rw (c.in-Some.is, c.in-Outside.is) at c.in_ok-sequel.ensures))

pub run_source-returns : goal.run_source-returns
run_source-returns t c =
    let a = c.args in
    let h = c.loop-sequel in
    lines_over h.rest a.frame h.progress _ h.invariant.leads (rw c.in_default.is at c.in_ok-sequel.ensures)

pub run_source-run_body-requires : goal.run_source-run_body-requires
run_source-run_body-requires t c =
    let a = c.args in
    let h = c.loop-sequel in
    let near = call_near h.rest a.frame h.progress (rw (c.in-Some.is, c.in-Call.is) at c.in_ok-sequel.ensures) h.invariant.given in
    (omega (arith, c.decreases), (c.requires.steady, (near.given, near.sequel)))

pub run_source-returns-in_err-run_body : goal.run_source-returns-in_err-run_body
run_source-returns-in_err-run_body t c =
    let a = c.args in
    let h = c.loop-sequel in
    let e : c.from_residual-in_err-run_body.result ≡ Err c.in_err-run_body.field-0.0 = search rules in
    rw e
    (call_refused h.rest a.frame h.progress _ h.invariant.leads
    (rw (c.in-Some.is, c.in-Call.is) at c.in_ok-sequel.ensures) c.in_err-run_body.ensures)

pub run_source-read-rest-requires : goal.run_source-read-rest-requires
run_source-read-rest-requires t c =
    let a = c.args in
    let h = c.loop-sequel in
    let behind = call_behind h.rest a.frame h.progress (rw (c.in-Some.is, c.in-Call.is) at c.in_ok-sequel.ensures) in
    omega (arith, h.invariant.read.fits, behind.after, behind.inside, behind.paced)

pub run_source-loop-sequel-smaller : goal.run_source-loop-sequel-smaller
run_source-loop-sequel-smaller t c =
    let a = c.args in
    let h = c.loop-sequel in
    let behind = call_behind h.rest a.frame h.progress (rw (c.in-Some.is, c.in-Call.is) at c.in_ok-sequel.ensures) in
    rw (c.read-rest.ensures.same_place, c.read-rest.ensures.same_text) (omega (arith, behind.after, behind.inside))

pub run_source-loop-sequel-preserved : goal.run_source-loop-sequel-preserved
run_source-loop-sequel-preserved t c =
    let a = c.args in
    let h = c.loop-sequel in
    let stored = bodies_of a.stored.text.now a.stored.macros.now in
    let calls = call (limits a.frame.job) stored a.depth in
    let near = call_near h.rest a.frame h.progress (rw (c.in-Some.is, c.in-Call.is) at c.in_ok-sequel.ensures) h.invariant.given in
    record {
      read = rw c.reader_of.ensures at c.read-rest.ensures.read;
      given =
          left_near (carry_call calls a.frame c.in-Call.end.line c.in-Call.block c.run_stretch.new.progress) c.in_ok-run_body.ensures
          (carry_call-near calls (call-near calls_near (limits a.frame.job) stored a.depth) a.frame c.in-Call.end.line c.in-Call.block near.sequel c.run_stretch.new.progress near.given);
      leads =
          rw (c.read-rest.ensures.same_place, c.read-rest.ensures.same_text)
          (call_passed h.rest a.frame h.progress _ h.invariant.leads
          (rw (c.in-Some.is, c.in-Call.is) at c.in_ok-sequel.ensures) c.in_ok-run_body.ensures);
    }

-- ---- The body runner

-- what is stored under its number, by what was found
module _ (bodies : Bodies) {n k : ℕ} {found o : Option Body} (is : found_of found ≡ bodies n) (same : n ≡ k) where
  found_as : found ≡ o → bodies k ≡ found_of o
  found_as e = ap bodies (sym same) ∙ sym is ∙ ap found_of e

pub run_body-returns-in_err-body : goal.run_body-returns-in_err-body
run_body-returns-in_err-body t c =
    let a = c.args in
    let bodies = bodies_of a.stored.text.now a.stored.macros.now in
    let e : c.from_residual.result ≡ refused NotStored a.line = search rules in
    let missing = found_as bodies c.find.ensures.found c.part_of.ensures c.in_err-body.ensures.ok_part in
    rw (e, carry_missing (limits a.frame.job) bodies a.depth a.frame a.line a.progress.now a.block missing) ran-refused

pub run_body-returns-then-depth-eq0 : goal.run_body-returns-then-depth-eq0
run_body-returns-then-depth-eq0 t c =
    let a = c.args in
    let bodies = bodies_of a.stored.text.now a.stored.macros.now in
    let found = found_as bodies c.find.ensures.found c.part_of.ensures c.in_ok-body.ensures.ok_part in
    rw (c.at-then-depth-eq0.ensures, carry_deep (limits a.frame.job) bodies a.depth a.frame a.line a.progress.now a.block _ found c.if-depth-eq0.true) ran-refused

pub run_body-run_source-requires : goal.run_body-run_source-requires
run_body-run_source-requires t c =
    let a = c.args in
    let r = c.requires in
    let steady = inner_steady a.block a.frame a.progress.now c.begin_call.ensures r.call_near r.given_near c.frame_by-inner.ensures (omega (arith, c.if-depth-eq0.false)) r.steady in
    let given = begun_near a.block a.frame a.progress.now c.begin_call.ensures r.call_near r.given_near in
    (omega (arith, c.decreases, c.if-depth-eq0.false), (rw c.reader_of.ensures at c.read-source.ensures.read, (steady, given)))

pub run_body-returns-in_err-run_source : goal.run_body-returns-in_err-run_source
run_body-returns-in_err-run_source t c =
    let a = c.args in
    let bodies = bodies_of a.stored.text.now a.stored.macros.now in
    let e : c.from_residual-in_err-run_source.result ≡ Err c.in_err-run_source.field-0.0 = search rules in
    let found = found_as bodies c.find.ensures.found c.part_of.ensures c.in_ok-body.ensures.ok_part in
    rw e
    (carry_body bodies a.depth a.frame a.line a.block a.progress.now found (omega (arith, c.if-depth-eq0.false)) c.begin_call.ensures c.frame_by-inner.ensures
    (rw (c.read-source.ensures.same_text, c.read-source.ensures.same_place, c.start.ensures) at c.in_err-run_source.ensures))

pub run_body-returns : goal.run_body-returns
run_body-returns t c =
    let a = c.args in
    let bodies = bodies_of a.stored.text.now a.stored.macros.now in
    let found = found_as bodies c.find.ensures.found c.part_of.ensures c.in_ok-body.ensures.ok_part in
    rw c.end_call.ensures
    (carry_body bodies a.depth a.frame a.line a.block a.progress.now found (omega (arith, c.if-depth-eq0.false)) c.begin_call.ensures c.frame_by-inner.ensures
    (rw (c.read-source.ensures.same_text, c.read-source.ensures.same_place, c.start.ensures) at c.in_ok-run_source.ensures))
