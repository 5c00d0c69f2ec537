-- By the first byte of the line.
use mathlib.Core.Path.{refl}
use mathlib.Core.Bool.{true, false}
use mathlib.Core.List.{List}
use Prim.Native.Nat.{ℕ}
use native.Mathlib.Omega.{arith}
use native.Mathlib.Numerals.{add-one}
use borrow.Author.Tests.{eq-eqb, ne_eqb}
use Rattle.aries.specs.declared.location.Location.{Location}
use Rattle.aries.specs.Judging.{limits}
use Rattle.aries.specs.Letters.{letter_v}
use Rattle.text.proofs.Lines.{line-inside}
use Rattle.stretches.specs.Stretches.{behind}
use Rattle.stretches.proofs.Stretches.{line_end_at}
use Rattle.program.specs.Lines.{InText, Beyond}
use Rattle.program.proofs.Turns.{leads_line}
use Rattle.program.proofs.RunFrom.{passed}
use Rattle.program.proofs.lines.pass_over.Goals.{then-text-from-eq-LETTER_V, else-text-from-eq-LETTER_V}
use Rattle.program.proofs.lines.pass_over.Goals as goal

-- the line ends within the text, and the next one lies further on
beyond : (t : List ℕ) (from : Location) → InText t from → Beyond t from (behind (line_end_at t from))
beyond t from p =
    let i = line-inside t from.offset (omega (arith, p.inside)) in
    record { further = omega arith; inside = omega (arith, i); numbered = omega (arith, p.numbered) }

pub overflow_add-result : goal.overflow_add-result
overflow_add-result c =
    let b = beyond c.args.text.now c.args.from c.requires.in_text in
    omega (arith, b.inside, c.requires.in_text.short, c.line_end.ensures)

pub returns : goal.returns
returns c =
    let a = c.args in
    let t = a.text.now in
    let p = a.program.now in
    let i = c.requires.in_text in
    rw (c.line_end.ensures, add-one a.from.line)
    (elim c.if-text-from-eq-LETTER_V.branch [
      | then-text-from-eq-LETTER_V w ↦
          rw w.program-is
          (leads_line t a.from p refl refl (beyond t a.from i) (passed (limits p.setup.job) t a.from p c.requires.storing i.inside true (eq-eqb _ letter_v w.if-text-from-eq-LETTER_V.true)))
      | else-text-from-eq-LETTER_V w ↦
          rw w.program-is
          (leads_line t a.from p refl refl (beyond t a.from i) (passed (limits p.setup.job) t a.from p c.requires.storing i.inside false (ne_eqb _ letter_v w.if-text-from-eq-LETTER_V.false)))
    ])
