-- What is summed up, with the bodies still to come, is the whole.
use Rattle.std.proofs.Common.{◌≡◌, ◌+◌, ◌*◌, ◌≤◌, drop, length}
use Rattle.aries.specs.Macros.{sizes, characters}
use Rattle.aries.proofs.macros.Macros.characters.Given as goal

abbrev pub invariant-loop-start : goal.invariant-loop-start
invariant-loop-start l =
    record {
      bound : l.total ≤ 65535 * length l.yielded;
      sum : l.total + sizes (drop (length l.yielded) l.self.starts) (drop (length l.yielded) l.self.ends) ≡ characters l.self;
    }
