-- Each axis by what Q says of it.
use mathlib.Core.Path.{◌≡◌}
use borrow.Author.Rules.{rules}
use mir.Syntax.{w32}
use mir.Val.{to_z, of_z}
use Rattle.aries.proofs.mirror.Mirror.opened.Goals.{Start}
use Rattle.aries.proofs.mirror.Mirror.opened.Goals as goal

a_back : (c : Start) → to_z w32 (of_z w32 c.args.spans.x) ≡ c.args.spans.x
a_back c = search rules

b-back : (c : Start) → to_z w32 (of_z w32 c.args.spans.y) ≡ c.args.spans.y
b-back c = search rules

pub opened-requires : goal.opened-requires
opened-requires c = let s = c.before.before.before.before in (s.requires.span_bound.0, simp (a_back s) s.requires.span_bound.1)

pub opened-requires-2 : goal.opened-requires-2
opened-requires-2 c = let s = c.before.before.before.before.before in (s.requires.span_bound_2.0, simp (b-back s) s.requires.span_bound_2.1)

pub returns : goal.returns
returns c =
    let s = c.before.before.before.before.before.before in
    rw (c.opened-2.ensures, c.opened.ensures) (simp (a_back s, b-back s))
