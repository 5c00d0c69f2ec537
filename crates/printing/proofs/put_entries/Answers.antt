-- One line after another, from the last to the first.
use Rattle.std.proofs.Common.{arith}
use Rattle.printing.proofs.Buffers.{front}
use Rattle.printing.proofs.Lines.{one_more, all_put}
use Rattle.printing.proofs.put_entries.Goals as goal

pub loop-i-preserved : goal.loop-i-preserved
loop-i-preserved c =
    let p = c.loop-i.invariant in
    let e = c.put_entry-end.ensures in
    record { left = one_more (omega arith) p.left e.put; room = omega (arith, p.room, e.bound, front p.left.put) }

pub returns-clause-put : goal.returns-clause-put
returns-clause-put c = all_put (omega arith) c.loop-i.invariant.left
