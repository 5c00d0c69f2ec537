-- Its ends are clipped to the text.
use mathlib.Core.Path.{◌≡◌, refl, ap, ap₂, ◌∙◌}
use mathlib.Core.Bool.{Bool, true, false, cond}
use Prim.Native.Nat.{ℕ, ◌-◌, min}
use native.Mathlib.Omega.{arith}
use borrow.Author.Tests.{ltb-true, ltb-false}
use lib.Dec.{ltb}
use lib.ListN.{length, take, drop}
use Rattle.aries.proofs.Calls.{clipped, part_clipped}
use Rattle.bodies.proofs.bytes_of.Goals as goal

min-clipped : (place limit : ℕ) → min place limit ≡ clipped place limit
min-clipped place limit = go (ltb limit place) refl
  where
    go : (b : Bool) → ltb limit place ≡ b → min place limit ≡ cond b limit place
    go true e = omega (arith, ltb-true limit place e)
    go false e = omega (arith, ltb-false limit place e)

pub returns : goal.returns
returns c =
    let text = c.args.text.now in
    let body = c.args.body in
    let end_is = c.min-end.ensures ∙ ap (λ (n : ℕ). min n (length text)) c.from.ensures ∙ min-clipped body.end _ in
    let start_is = c.min-start.ensures ∙ ap₂ min c.from-2.ensures end_is ∙ min-clipped body.start _ in
    ap₂ (λ (a b : ℕ). take (b - a) (drop a text)) start_is end_is ∙ part_clipped text body.start body.end
