-- Each arm is a row of the definition; kinds with the same letters share one (`Arms`).
use mathlib.Core.Path.{refl, sym, ◌∙◌}
use mathlib.Core.Bool.{Bool}
use mathlib.Core.List.{[], ◌∷◌}
use borrow.Author.Rules.{rules}
use Rattle.aries.specs.declared.block.Kind.{Kind}
use Rattle.aries.specs.declared.block.Kind.TheVariants.{G26, G28, G36, G37, G50, G70, G72, G75, G76, G93, Position, Lone}
use Rattle.aries.specs.Forms.{form_of}
use Rattle.aries.specs.Text.{bytes}
use Rattle.lengths.proofs.Arms.{alike}
use Rattle.words.specs.declared.Line.{Line}
use Rattle.blocks.specs.Counting.{form_counts}
use Rattle.blocks.proofs.letters.form_fits.Goals as goal

-- by the kind
abbrev counts : Line → Kind → Bool
counts l k = form_counts l (form_of k)

pub returns-in-G26 : goal.returns-in-G26
unfolding bytes
returns-in-G26 c = c.counts_fit.ensures ∙ sym (alike (counts c.args.line.now) c.args.kind (G26 ∷ G28 ∷ []) refl (search rules))

pub returns-in-G29 : goal.returns-in-G29
unfolding bytes
returns-in-G29 c = rw c.in-G29.is c.counts_fit-in-G29.ensures

pub returns-in-G36 : goal.returns-in-G36
unfolding bytes
returns-in-G36 c = c.counts_fit-in-G36.ensures ∙ sym (alike (counts c.args.line.now) c.args.kind (G36 ∷ G37 ∷ []) refl (search rules))

pub returns-in-G66 : goal.returns-in-G66
unfolding bytes
returns-in-G66 c = rw c.in-G66.is c.counts_fit-in-G66.ensures

pub returns-in-G70 : goal.returns-in-G70
unfolding bytes
returns-in-G70 c = c.counts_fit-in-G70.ensures ∙ sym (alike (counts c.args.line.now) c.args.kind (G70 ∷ Position ∷ []) refl (search rules))

pub returns-in-G72 : goal.returns-in-G72
unfolding bytes
returns-in-G72 c = c.counts_fit-in-G72.ensures ∙ sym (alike (counts c.args.line.now) c.args.kind (G72 ∷ G93 ∷ []) refl (search rules))

pub returns-in-G73 : goal.returns-in-G73
unfolding bytes
returns-in-G73 c = rw c.in-G73.is c.counts_fit-in-G73.ensures

pub returns-in-G75 : goal.returns-in-G75
unfolding bytes
returns-in-G75 c = c.counts_fit-in-G75.ensures ∙ sym (alike (counts c.args.line.now) c.args.kind (G75 ∷ G76 ∷ []) refl (search rules))

pub returns-in-G92 : goal.returns-in-G92
unfolding bytes
returns-in-G92 c = rw c.in-G92.is c.counts_fit-in-G92.ensures

pub returns-in-G98 : goal.returns-in-G98
unfolding bytes
returns-in-G98 c = rw c.in-G98.is c.counts_fit-in-G98.ensures

pub returns-in-LetterM : goal.returns-in-LetterM
unfolding bytes
returns-in-LetterM c = rw c.in-LetterM.is c.counts_fit-in-LetterM.ensures

pub returns-in-LetterB : goal.returns-in-LetterB
unfolding bytes
returns-in-LetterB c = rw c.in-LetterB.is c.counts_fit-in-LetterB.ensures

pub returns-in-LetterU : goal.returns-in-LetterU
unfolding bytes
returns-in-LetterU c = rw c.in-LetterU.is c.counts_fit-in-LetterU.ensures

pub returns-in-LetterV : goal.returns-in-LetterV
unfolding bytes
returns-in-LetterV c = rw c.in-LetterV.is c.counts_fit-in-LetterV.ensures

pub returns-in-LetterW : goal.returns-in-LetterW
unfolding bytes
returns-in-LetterW c = rw c.in-LetterW.is c.counts_fit-in-LetterW.ensures

pub returns-in-G50 : goal.returns-in-G50
unfolding bytes
returns-in-G50 c = c.counts_fit-in-G50.ensures ∙ sym (alike (counts c.args.line.now) c.args.kind (G50 ∷ Lone ∷ []) refl (search rules))
