use mathlib.Core.Path.{◌≡◌, sym, ap, ◌∙◌}
use mathlib.Core.Bool.{Bool}
use mathlib.Core.List.{List}
use Prim.Native.Nat.{ℕ, ◌<◌}
use native.Mathlib.Omega.{arith}
use borrow.Author.Tests.{ltb-true, ltb-false}
use lib.ListN.{length, get_or}
use Rattle.std.proofs.lemmas.Grind.{get_or_default_zero}
use Rattle.text.proofs.Lines.{line-inside}
use Rattle.storing.specs.Marks.{marks}
use Rattle.storing.proofs.Sizes.{from_other, size_past, size-at-mark}
use Rattle.storing.proofs.body_size.Goals as goal

-- the byte at a place, by the test of a mark
marks_at : (t : List ℕ) (at first : ℕ) {b : Bool} → at < length t → first ≡ get_or t at first → marks first ≡ b → marks (get_or t at 0) ≡ b
marks_at t at first h e m = ap marks (sym (e ∙ get_or_default_zero t at first h)) ∙ m

pub returns-then-is_mark-clause-found : goal.returns-then-is_mark-clause-found
returns-then-is_mark-clause-found c =
    let a = c.args in
    let t = a.text.now in
    let l = c.loop-first in
    let s = c.in-Some in
    let h = ltb-true l.at (length t) (sym s.ensures.lookup.0) in
    rw (c.then_some.ensures, c.is_own_close.ensures)
    (sym (size-at-mark a.reader a.number t a.from l.at h l.invariant.1 l.invariant.0 (marks_at t l.at s.field-0.now h s.ensures.lookup.1 (sym c.is_mark.ensures ∙ c.if-is_mark.true))))

pub overflow_add-at : goal.overflow_add-at
overflow_add-at c =
    let t = c.args.text.now in
    let h = ltb-true c.loop-first.at (length t) (sym c.in-Some.ensures.lookup.0) in
    omega (arith, line-inside t c.loop-first.at (omega (arith, h)), c.line_end-at.ensures)

pub loop-first-preserved : goal.loop-first-preserved
loop-first-preserved c =
    let a = c.args in
    let t = a.text.now in
    let l = c.loop-first in
    let s = c.in-Some in
    let h = ltb-true l.at (length t) (sym s.ensures.lookup.0) in (
      omega (arith, l.invariant.0, c.line_end-at.ensures),
      rw c.line_end-at.ensures (from_other a.reader a.number t a.from l.at h l.invariant.1 l.invariant.0 (marks_at t l.at s.field-0.now h s.ensures.lookup.1 (sym c.is_mark.ensures ∙ c.if-is_mark.false))),
    )

pub returns-clause-found : goal.returns-clause-found
returns-clause-found c =
    let a = c.args in
    let l = c.loop-first in
    sym (size_past a.reader a.number a.text.now a.from l.at (ltb-false l.at (length a.text.now) (sym c.in_default.ensures.lookup.0)) l.invariant.1)
