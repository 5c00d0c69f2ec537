use native.Mathlib.Omega.{arith}
use lib.ListN.{length-set}
use Rattle.text.proofs.Cleaning.{copied_other, copied-space, copied_all}
use Rattle.text.proofs.copy_without_spaces.Goals.{then-b-ne-SPACE, else-b-ne-SPACE}
use Rattle.text.proofs.copy_without_spaces.Goals as goal

pub loop-b-preserved : goal.loop-b-preserved
loop-b-preserved c =
    let w = c.loop-b in
    let t = c.args.text.now in
    let m = c.if-b-ne-SPACE.n in record {
      within = elim c.if-b-ne-SPACE.branch [ then-b-ne-SPACE v ↦ omega arith | else-b-ne-SPACE v ↦ omega arith ];
      same_room = simp length-set w.invariant.same_room;
      dense = elim c.if-b-ne-SPACE.branch [
        | then-b-ne-SPACE v ↦ copied_other t w.buffer w.b-index w.n m (omega arith) (omega arith) v.if-b-ne-SPACE.true v.n-is w.invariant.dense
        | else-b-ne-SPACE v ↦ copied-space t w.buffer w.b-index w.n m (omega arith) v.if-b-ne-SPACE.false v.n-is w.invariant.dense
      ];
    }

pub returns : goal.returns
returns c =
    let w = c.loop-b in
    copied_all c.args.text.now w.buffer w.b-index w.n (omega arith) (omega arith) w.invariant.dense
