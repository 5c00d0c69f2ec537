-- One law of `copy_part` for each way out.
use mathlib.Core.Path.{◌≡◌, refl, sym, ap, ◌∙◌}
use borrow.Author.Rules.{rules}
use Rattle.aries.specs.declared.refusal.Refusal.TheVariants.{NotStored, NoLayout}
use Rattle.aries.specs.Judging.{limits}
use Rattle.aries.specs.Layouts.{copy_part}
use Rattle.aries.specs.Macros.{bodies_of}
use Rattle.aries.specs.Outcome.{refused}
use Rattle.aries.specs.Runs.{lent_both}
use Rattle.aries.specs.Setup.{ordinary_frame}
use Rattle.aries.proofs.Carried.{carried-refused}
use Rattle.bodies.specs.Stored.{found_of}
use Rattle.copies.proofs.CopyPart.{part_missing, no_layout, part-copied, whole_body, lines_blank}
use Rattle.copies.proofs.copy_part.Goals as goal

pub returns-in_err-body : goal.returns-in_err-body
returns-in_err-body c =
    let a = c.args in
    let bodies = bodies_of a.stored.text.now a.stored.macros.now in
    let e : c.from_residual.result ≡ refused NotStored a.line = search rules in
    rw e
    (carried-refused (ordinary_frame a.setup) (λ j. copy_part j bodies a.setup a.line a.copies) refl
    (part_missing (limits a.setup.job) bodies a.setup a.line a.copies a.progress.now (sym c.find.ensures.found ∙ ap found_of c.in_err-body.ensures.ok_part)))

pub returns-in_err-layout : goal.returns-in_err-layout
returns-in_err-layout c =
    let a = c.args in
    let bodies = bodies_of a.stored.text.now a.stored.macros.now in
    let found = sym c.find.ensures.found ∙ ap found_of c.in_ok-body.ensures.ok_part in
    let e : c.from_residual-in_err-layout.result ≡ refused NoLayout a.line = search rules in
    rw e
    (carried-refused (ordinary_frame a.setup) (λ j. copy_part j bodies a.setup a.line a.copies) refl
    (no_layout (limits a.setup.job) bodies a.setup a.line a.copies a.progress.now found c.in_err-layout.ensures.ok_part))

pub returns-then-is_none : goal.returns-then-is_none
returns-then-is_none c =
    let a = c.args in
    let bodies = bodies_of a.stored.text.now a.stored.macros.now in
    let found = sym c.find.ensures.found ∙ ap found_of c.in_ok-body.ensures.ok_part in
    let source = c.read-source in
    let whole = whole_body source.result c.in_ok-body.body source.ensures.same_text source.ensures.same_place c.start.ensures in
    rw (part-copied (limits a.setup.job) bodies a.setup a.line a.copies a.progress.now found c.in_ok-layout.ensures.ok_part, ← whole)
    (rw (lines_blank (limits a.setup.job) bodies source.result source.ensures.read c.if-is_none.ensures)
    (c.copy_blank.ensures (ordinary_frame a.setup) (lent_both a.list.now a.tally.now)))

pub returns : goal.returns
returns c =
    let a = c.args in
    let bodies = bodies_of a.stored.text.now a.stored.macros.now in
    let found = sym c.find.ensures.found ∙ ap found_of c.in_ok-body.ensures.ok_part in
    let source = c.read-source in
    let whole = whole_body source.result c.in_ok-body.body source.ensures.same_text source.ensures.same_place c.start.ensures in
    rw (part-copied (limits a.setup.job) bodies a.setup a.line a.copies a.progress.now found c.in_ok-layout.ensures.ok_part, ← whole)
    (rw c.frame-frame.ensures at c.copy_over.ensures)
