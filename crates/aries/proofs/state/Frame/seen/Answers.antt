-- The two axes, each read back from the words that held its numbers.
use mathlib.Core.Path.{◌≡◌, ap₂, ◌∙◌}
use borrow.Author.Rules.{rules}
use mir.Syntax.{w32, w64}
use mir.Val.{to_z, of_z}
use Rattle.signed.proofs.Integers.{read_back}
use Rattle.aries.specs.Mirrors.{seen}
use Rattle.aries.specs.Moves.{point_at}
use Rattle.aries.proofs.state.Frame.seen.Goals.{After-seen_from, Start}
use Rattle.aries.proofs.state.Frame.seen.Goals as goal

module _ (c : Start) where
  origin-x-back : to_z w32 (of_z w32 c.args.self.origin.x) ≡ c.args.self.origin.x
  origin-x-back = search rules

  origin-y-back : to_z w32 (of_z w32 c.args.self.origin.y) ≡ c.args.self.origin.y
  origin-y-back = search rules

  x-back : to_z w64 (of_z w64 c.args.p.x) ≡ c.args.p.x
  x-back = search rules

  y-back : to_z w64 (of_z w64 c.args.p.y) ≡ c.args.p.y
  y-back = search rules

-- the function's entry, seen from the first axis
abbrev entry : After-seen_from → Start
entry d = d.before.before.before.before.before.before.before.before

pub seen_from-requires : goal.seen_from-requires
seen_from-requires c = let a = c.before.before.before.before.before.before.before in simp (x-back a) a.requires.x

pub seen_from-requires-2 : goal.seen_from-requires-2
seen_from-requires-2 c = let a = entry c in simp (y-back a) a.requires.y

pub returns : goal.returns
unfolding seen
returns c =
    let d = c.before in
    let a = entry d in
    ap₂ point_at
    (read_back w64 d.seen_from.result d.seen_from.type_inv ∙ (simp (origin-x-back a, x-back a) at d.seen_from.ensures))
    (read_back w64 c.seen_from-2.result c.seen_from-2.type_inv ∙ (simp (origin-y-back a, y-back a) at c.seen_from-2.ensures))
