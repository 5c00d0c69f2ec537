-- By what 15 makes of the place; where it is near enough, the part is carried out there.
use mathlib.Core.Path.{◌≡◌, refl, sym, ◌∙◌}
use borrow.Author.Rules.{rules}
use Rattle.aries.specs.declared.refusal.Refusal.TheVariants.{TooFar}
use Rattle.aries.specs.Outcome.{refused}
use Rattle.aries.specs.Judging.{limits}
use Rattle.aries.specs.Layouts.{copy}
use Rattle.aries.specs.Macros.{run_body}
use Rattle.aries.specs.WidePoints.{point_of}
use Rattle.aries.proofs.Carried.{carried-refused}
use Rattle.aries.proofs.WidePoints.{located-at, located_far}
use Rattle.copies.specs.Copying.{part_by}
use Rattle.copies.proofs.CopyAll.{copy_far, copy-carried}
use Rattle.copies.proofs.ReadyPart.copy_at.Goals as goal

pub returns-in_err-point : goal.returns-in_err-point
returns-in_err-point c =
    let a = c.args in
    let p = point_of a.place in
    let e : c.from_residual.result ≡ refused TooFar a.line = search rules in
    rw e
    (carried-refused a.frame (λ j. copy j (part_by j a.self.now) a.frame a.line a.found p) refl
    (copy_far a.frame.job (part_by (limits a.frame.job) a.self.now) a.frame a.line a.found p a.progress.now (located_far p (sym c.in_err-point.ensures.ok_part ∙ c.located.ensures))))

pub returns : goal.returns
unfolding run_body
returns c =
    let a = c.args in
    let p = point_of a.place in
    let near = located-at p c.in_ok-point.point (sym c.in_ok-point.ensures.ok_part ∙ c.located.ensures) in
    copy-carried (λ j. part_by j a.self.now) a.frame a.line a.found p a.progress.now near c.at-here.ensures c.standing_at-progress.ensures refl c.run_source.ensures
