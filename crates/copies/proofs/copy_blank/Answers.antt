-- By what 15 makes of all places.
use mathlib.Core.Path.{◌≡◌, refl, sym, ◌∙◌}
use borrow.Author.Rules.{rules}
use Rattle.aries.specs.declared.refusal.Refusal.TheVariants.{TooFar}
use Rattle.aries.specs.Outcome.{refused}
use Rattle.aries.proofs.Carried.{carried-refused, carried_no_entry}
use Rattle.copies.specs.Copying.{blank_part, all_copies}
use Rattle.copies.proofs.CopyAll.{blank_passed, blank_refused}
use Rattle.copies.proofs.copy_blank.Goals as goal

pub returns-in_err-last : goal.returns-in_err-last
returns-in_err-last c f l =
    let a = c.args in
    let e : c.from_residual.result ≡ refused TooFar a.line = search rules in
    rw e
    (carried-refused f (λ j. all_copies j blank_part f a.line a.places) refl
    (blank_refused f a.line a.places a.progress.now (sym c.last_copy.ensures ∙ c.in_err-last.ensures.ok_part)))

pub returns : goal.returns
returns c f l =
    let a = c.args in
    carried_no_entry f (λ j. all_copies j blank_part f a.line a.places) refl refl
    (rw c.standing_at-progress.ensures
    (blank_passed f a.line a.places a.progress.now (sym c.last_copy.ensures ∙ c.in_ok-last.ensures.ok_part)))
