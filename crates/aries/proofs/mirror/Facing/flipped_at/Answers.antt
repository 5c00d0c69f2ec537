-- A span and a length that is near make one that fits 32 bits.
use mathlib.Core.Path.{◌≡◌, ◌∙◌}
use Prim.Native.Nat.{◌≤◌}
use native.Mathlib.Nat.{le_trans}
use borrow.Author.Rules.{rules}
use borrow.Author.Tests.{leb-true}
use lib.Dec.{lit≤}
use lib.IntN.{nat_abs, ◌+ℤ◌, ◌-ℤ◌}
use mir.Syntax.{w32, w64}
use mir.Val.{to_z, of_z}
use mir.Facts.{to_z-of_z}
use Rattle.signed.proofs.Integers.{read_back, abs_add, abs_sub}
use Rattle.aries.specs.Judging.{farthest}
use Rattle.aries.specs.Steady.{span_limit}
use Rattle.aries.proofs.mirror.Facing.flipped_at.Goals.{After-difference, After-sum, Start}
use Rattle.aries.proofs.mirror.Facing.flipped_at.Goals as goal

span-back : (c : Start) → to_z w32 (of_z w32 c.args.self.span) ≡ c.args.self.span
span-back c = search rules

-- the size of what is made of both
small : (c : Start) → nat_abs c.args.a ≤ farthest
small c = leb-true (nat_abs c.args.a) farthest c.requires.1

difference-is : (c : After-difference) → let a = c.args in c.difference.result ≡ a.self.span -ℤ a.a
difference-is c = simp (span-back c.before.before.before, to_z-of_z c.ranges.a) at c.difference.ensures

sum_is : (c : After-sum) → let a = c.args in c.sum.result ≡ a.self.span +ℤ a.a
sum_is c = simp (span-back c.before.before.before, to_z-of_z c.ranges.a) at c.sum.ensures

pub narrow-requires : goal.narrow-requires
narrow-requires c =
    let s = c.before.before.before in
    simp (read_back w64 c.difference.result c.difference.type_inv)
    (simp (difference-is c) (le_trans (abs_sub s.args.self.span s.args.a span_limit farthest s.requires.0 (small s)) (lit≤ tt)))

pub narrow-requires-else-self : goal.narrow-requires-else-self
narrow-requires-else-self c =
    let s = c.before.before.before in
    simp (read_back w64 c.sum.result c.sum.type_inv)
    (simp (sum_is c) (le_trans (abs_add s.args.self.span s.args.a span_limit farthest s.requires.0 (small s)) (lit≤ tt)))

pub returns-then-self : goal.returns-then-self
returns-then-self c =
    let d = c.before in
    simp
    (d.if-self.true, read_back w32 c.narrow.result c.narrow.type_inv ∙ (simp (read_back w64 d.difference.result d.difference.type_inv) at c.narrow.ensures) ∙ difference-is d)

pub returns-else-self : goal.returns-else-self
returns-else-self c =
    let d = c.before in
    simp
    (d.if-self.false, read_back w32 c.narrow-else-self.result c.narrow-else-self.type_inv ∙ (simp (read_back w64 d.sum.result d.sum.type_inv) at c.narrow-else-self.ensures) ∙ sum_is d)
