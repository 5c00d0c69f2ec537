-- All places are near, and so is the last.
use Rattle.std.specs.Prelude.{None, Some}
use mathlib.Core.Path.{◌≡◌, sym, ap, ◌∙◌}
use mathlib.Core.Bool.{Bool, true, cond}
use Prim.Native.Nat.{◌-◌}
use native.Mathlib.Omega.{arith}
use Rattle.aries.specs.Layouts.{copy_count, copy_place}
use Rattle.aries.specs.WidePoints.{located}
use Rattle.placing.specs.Places.{all_near}
use Rattle.placing.proofs.AllNear.{all_near_lem}
use Rattle.placing.proofs.Places.last_copy.Goals as goal

pub returns-then-all_near : goal.returns-then-all_near
returns-then-all_near c =
    let a = c.args.self in
    let last = copy_count a.layout - 1 in
    let p = copy_place a.origin a.layout a.copies in
    let whole : all_near a.origin a.layout ≡ true = sym c.all_near.ensures ∙ c.if-all_near.true in
    c.located.ensures
    ∙ ap located (c.copy_place.ensures ∙ ap p c.last.ensures.place)
    ∙ ap (λ (b : Bool). cond b (Some (p last)) None) (all_near_lem a.origin a.layout a.copies last (omega arith) whole ∙ sym whole)
