-- Each arm is a row of the definition; kinds with the same letters share one (`Arms`).
use mathlib.Core.Path.{refl, sym, ap}
use mathlib.Core.List.{[], ◌∷◌}
use borrow.Author.Rules.{rules}
use Rattle.aries.specs.declared.block.Kind.TheVariants.{G26, G28, G36, G37, G50, G70, G72, G73, G75, G76, G92, G93, Position, Lone, LetterM, LetterB, LetterU, LetterV, LetterW}
use Rattle.aries.specs.Text.{bytes}
use Rattle.aries.specs.Numbers.{lengths_of}
use Rattle.lengths.proofs.Arms.{alike}
use Rattle.lengths.proofs.lengths_of.Goals as goal

pub returns-in-G26 : goal.returns-in-G26
unfolding bytes
returns-in-G26 c = sym (ap bytes (alike lengths_of c.args.kind (G26 ∷ G28 ∷ G36 ∷ G37 ∷ []) refl (search rules)))

pub returns-in-G29 : goal.returns-in-G29
unfolding bytes
returns-in-G29 c = rw c.in-G29.is

pub returns-in-G66 : goal.returns-in-G66
unfolding bytes
returns-in-G66 c = rw c.in-G66.is

pub returns-in-G70 : goal.returns-in-G70
unfolding bytes
returns-in-G70 c = sym (ap bytes (alike lengths_of c.args.kind (G70 ∷ G72 ∷ G73 ∷ G92 ∷ G93 ∷ Position ∷ []) refl (search rules)))

pub returns-in-G98 : goal.returns-in-G98
unfolding bytes
returns-in-G98 c = rw c.in-G98.is

pub returns-in_default : goal.returns-in_default
unfolding bytes
returns-in_default c =
    sym (ap bytes (alike lengths_of c.args.kind (G50 ∷ G75 ∷ G76 ∷ Lone ∷ LetterM ∷ LetterB ∷ LetterU ∷ LetterV ∷ LetterW ∷ []) refl (search rules)))
