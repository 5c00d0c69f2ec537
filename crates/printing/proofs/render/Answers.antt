-- The tools, the entries in front of them and the head in front of both.
use Rattle.printing.specs.Listing.{listing}
use Rattle.printing.proofs.Buffers.{in_front}
use Rattle.printing.proofs.render.Goals as goal

pub returns-in-Ok : goal.returns-in-Ok
unfolding listing
returns-in-Ok c =
    rw c.in-Ok.is (in_front (in_front c.put_tools-tools.ensures.put c.put_entries-entries.ensures.put) c.put_head.ensures)
