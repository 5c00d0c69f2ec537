-- The two coordinates, read back from the words that held them.
use mathlib.Core.Path.{◌≡◌}
use borrow.Author.Rules.{rules}
use mir.Syntax.{w32, w64}
use mir.Val.{to_z, of_z}
use Rattle.aries.proofs.point.WidePoint.narrow.Goals.{After-narrow, After-narrow-2, Start}
use Rattle.aries.proofs.point.WidePoint.narrow.Goals as goal

x-back : (c : Start) → to_z w64 (of_z w64 c.args.self.x) ≡ c.args.self.x
x-back c = search rules

y-back : (c : Start) → to_z w64 (of_z w64 c.args.self.y) ≡ c.args.self.y
y-back c = search rules

pub narrow-requires : goal.narrow-requires
narrow-requires c =
    let entry = c.before.before in
    simp (x-back entry) entry.requires.0

pub narrow-requires-2 : goal.narrow-requires-2
narrow-requires-2 c =
    let entry = c.before.before.before in
    simp (y-back entry) entry.requires.1

x-is : (c : After-narrow) → to_z w32 (of_z w32 c.narrow.result) ≡ c.args.self.x
x-is c =
    let e : to_z w32 (of_z w32 c.narrow.result) ≡ c.narrow.result = search rules in
    simp (e) (simp (x-back c.before.before.before) at c.narrow.ensures)

y-is : (c : After-narrow-2) → to_z w32 (of_z w32 c.narrow-2.result) ≡ c.args.self.y
y-is c =
    let e : to_z w32 (of_z w32 c.narrow-2.result) ≡ c.narrow-2.result = search rules in
    simp (e) (simp (y-back c.before.before.before.before) at c.narrow-2.ensures)

pub returns : goal.returns
returns c = simp (x-is c.before, y-is c)
