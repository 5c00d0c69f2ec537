-- Flipped, by the formula itself; else the origin drops out.
use mathlib.Core.Path.{◌≡◌, sym, ◌∙◌}
use borrow.Author.Rules.{rules}
use lib.IntN.{+ℤ_comm}
use mir.Syntax.{w32, w64}
use mir.Val.{to_z, of_z}
use mir.Facts.{to_z-of_z}
use Rattle.signed.proofs.Integers.{read_back}
use Rattle.aries.proofs.Mirrors.{straight-seen}
use Rattle.aries.proofs.mirror.Facing.seen_from.Goals.{Start}
use Rattle.aries.proofs.mirror.Facing.seen_from.Goals as goal

span-back : (c : Start) → to_z w32 (of_z w32 c.args.self.span) ≡ c.args.self.span
span-back c = search rules

pub reflected-requires : goal.reflected-requires
reflected-requires c = let s = c.before.before in simp (to_z-of_z s.ranges.x) s.requires

pub moved-requires : goal.moved-requires
moved-requires c = let s = c.before.before in simp (to_z-of_z s.ranges.x) s.requires

pub returns-then-self : goal.returns-then-self
returns-then-self c =
    let s = c.before.before.before in
    read_back w64 c.reflected.result c.reflected.type_inv
    ∙ (simp (span-back s, to_z-of_z s.ranges.origin, to_z-of_z s.ranges.x) at c.reflected.ensures) ∙ sym (simp c.if-self.true)

pub returns-else-self : goal.returns-else-self
returns-else-self c =
    let s = c.before.before.before in
    read_back w64 c.moved.result c.moved.type_inv
    ∙ (simp (span-back s, to_z-of_z s.ranges.x) at c.moved.ensures) ∙ +ℤ_comm s.args.self.span s.args.x
    ∙ sym (straight-seen s.args.self.span s.args.origin s.args.x) ∙ sym (simp c.if-self.false)
