-- A word is put in its place, and past the last one there is none (`Marks`).
use Rattle.std.specs.Prelude.{Some, Option}
use mathlib.Core.Path.{◌≡◌, sym, ap₂, ◌∙◌}
use mathlib.Core.List.{List}
use Prim.Native.Nat.{ℕ, ◌≤◌}
use native.Mathlib.Omega.{arith}
use lib.ListN.{set, length}
use mir.Syntax.{w32}
use mir.Val.{to_z, of_z}
use borrow.Author.Rules.{rules}
use Rattle.aries.specs.declared.word.Word.{Word}
use Rattle.aries.proofs.Marks.{letters_set, letters_past}
use Rattle.aries.proofs.word.Letters.put.Goals as goal

pub returns-then-place-lt26 : goal.returns-then-place-lt26
returns-then-place-lt26 c =
    let back : to_z w32 (of_z w32 c.args.word.value) ≡ c.args.word.value = search rules in
    let i = c.place_of-place.result in
    let in-place = letters_set c.self.inside.marks c.self.inside.numbers i (record { signed = c.args.word.signed; pointed = c.args.word.pointed }) c.args.word.value (omega (arith, c.self.told, c.if-place-lt26.true)) in
    simp back
    (in-place ∙ ap₂ (λ (l : List (Option Word)) (n : ℕ). set l n (Some c.args.word)) c.self.view_is c.place_of-place.ensures)

pub returns-else-place-lt26 : goal.returns-else-place-lt26
returns-else-place-lt26 c =
    let i = c.place_of-place.result in
    let h : length c.self.inside.marks ≤ i = omega (arith, c.self.invariant, c.if-place-lt26.false) in
    sym c.self.view_is
    ∙ sym (letters_past c.self.inside.marks c.self.inside.numbers i (Some c.args.word) h)
    ∙ ap₂ (λ (l : List (Option Word)) (n : ℕ). set l n (Some c.args.word)) c.self.view_is c.place_of-place.ensures
