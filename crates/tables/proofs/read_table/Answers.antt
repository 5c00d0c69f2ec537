-- A line more is blank, bad or a row.
use mathlib.Core.Path.{◌≡◌, sym, ◌∙◌}
use mathlib.Core.List.{List, ◌∷◌}
use Prim.Native.Nat.{ℕ, ◌+◌, ◌/◌}
use native.Mathlib.Omega.{arith}
use lib.Dec.{eqb}
use lib.ListN.{length, drop}
use Rattle.std.proofs.Common.{rules, tests}
use Rattle.std.proofs.lemmas.Iterator.Consumers.{YieldsList-at, YieldsList-from_enumerate, YieldsList-turn, YieldsList-end}
use Rattle.std.proofs.lemmas.Iterator.Splits.{YieldsList-from_slice_split}
use Rattle.std.proofs.lemmas.Iterator.{YieldsList}
use Rattle.std.proofs.lemmas.List.{length_push}
use Rattle.std.proofs.lemmas.Result.{err_from_is_err_and}
use Rattle.std.specs.Prelude.{Some, None}
use Rattle.std.specs.List.{enumerate_from}
use Rattle.std.specs.declared.iter.Enumerate.{Enumerate}
use Rattle.std.specs.declared.slice.Split.{Split}
use Rattle.aries.specs.Text.{line_feed}
use Rattle.tables.specs.Tables.{table_of}
use Rattle.tables.proofs.Tables.{reads_none, past_blank, at_bad, reads_many, past_row, reads_all}
use Rattle.tables.proofs.Parts.{parts, rows_from-parts, part_at, parts_end}
use Rattle.tables.proofs.read_table.Goals.{After-next, In-Some}
use Rattle.tables.proofs.read_table.Goals as goal
use Rattle.tables.proofs.read_table.Given as given

-- the loop goes over the numbered parts of the text
abbrev Numbered : Enumerate (Split ℕ (Unit {0})) → List ℕ → Type 0
Numbered iterator text = YieldsList given.iterator-loop-before.next_gives (λ p. (p.0, p.1.now)) iterator (enumerate_from 0 (parts text))

numbered : (c : After-next) → Numbered c.into_iter-before-iterator.result c.args.text.now
numbered c =
    YieldsList-at c.into_iter-before-iterator.ensures.into_iter_gives
    (YieldsList-from_enumerate
    (YieldsList-at c.enumerate-before-items.ensures.source
    (YieldsList-from_slice_split _ (λ b. eqb b line_feed) c.args.text.now c.split.ensures.rest c.split.ensures.done
    c.split.ensures.closure
    (λ x r q k. search (rules, tests))))
    c.enumerate-before-items.ensures.count)

-- the part that is read, and those that are left
module _ (c : In-Some) where
  abbrev left : List (List ℕ)
  left = drop (length c.loop-before.yielded + 1) (parts c.args.text.now)

  next :
      Numbered c.into_iter-before-iterator.result c.args.text.now
      → (c.in-Some.before ≡ length c.loop-before.yielded)
      × (drop (length c.loop-before.yielded) (parts c.args.text.now) ≡ c.in-Some.line.now ∷ left)
  next road =
      let turn = YieldsList-turn road c.loop-before.yielded _ c.loop-before.yielded_by _ _
      (c.in-Some.before, c.in-Some.line) c.in-Some.is c.next.ensures.steps in
      part_at (parts c.args.text.now) (length c.loop-before.yielded) c.in-Some.before c.in-Some.line.now turn.0 turn.1

pub loop-before-init : goal.loop-before-init
unfolding table_of
loop-before-init c =
    let t = c.args.text.now in
    let places = length c.args.table.now / 3 in
    reads_none (table_of places t) c.args.table.now places (parts t) (rows_from-parts places 1 t)

pub loop-before-preserved-then-is_blank : goal.loop-before-preserved-then-is_blank
loop-before-preserved-then-is_blank c =
    let at = goal.at.loop-before-preserved-then-is_blank c in
    let part = next at.In-Some (numbered at.After-next) in
    rw length_push
    (past_blank c.loop-before.invariant c.in-Some.line.now (left at.In-Some) part.1 (sym c.is_blank.ensures ∙ c.if-is_blank.true))

pub returns-in_err-row : goal.returns-in_err-row
returns-in_err-row c =
    let at = goal.at.returns-in_err-row c in
    let part = next at.In-Some (numbered at.After-next) in
    let p = err_from_is_err_and c.from_residual.result c.from_residual.ensures.1 in
    let none : c.read_row.result ≡ None = grind arith in
    let bad : c.in_err-row.field-0.0 ≡ record { line = c.in-Some.before + 1 } = grind arith in
    rw (p.1, p.2, bad, part.0)
    (at_bad c.loop-before.invariant c.in-Some.line.now (left at.In-Some) part.1 (sym c.is_blank.ensures ∙ c.if-is_blank.false)
    (sym c.read_row.ensures ∙ none))

pub returns-then-rows-places : goal.returns-then-rows-places
returns-then-rows-places c =
    let at = goal.at.returns-then-rows-places c in
    let part = next at.In-Some (numbered at.After-next) in
    let some : c.read_row.result ≡ Some c.in_ok-row.row = grind arith in
    rw part.0
    (reads_many c.loop-before.invariant c.in-Some.line.now (left at.In-Some) part.1 c.in_ok-row.row
    (sym c.is_blank.ensures ∙ c.if-is_blank.false) (sym c.read_row.ensures ∙ some) c.if-rows-places.true)

pub loop-before-preserved : goal.loop-before-preserved
loop-before-preserved c =
    let at = goal.at.loop-before-preserved c in
    let part = next at.In-Some (numbered at.After-next) in
    let some : c.read_row.result ≡ Some c.in_ok-row.row = grind arith in
    rw (length_push, c.put_row.ensures)
    (past_row c.loop-before.invariant c.in-Some.line.now (left at.In-Some) part.1 c.in_ok-row.row
    (sym c.is_blank.ensures ∙ c.if-is_blank.false) (sym c.read_row.ensures ∙ some)
    (omega (arith, c.loop-before.invariant.within)) (omega arith))

pub returns : goal.returns
returns c =
    let r = (goal.at.returns c).After-next in
    let end = YieldsList-end (numbered r) c.loop-before.yielded _ c.loop-before.yielded_by _ _ c.in-None.is c.next.ensures.steps in
    reads_all c.loop-before.invariant (parts_end (parts c.args.text.now) (length c.loop-before.yielded) end.1) (omega arith)
