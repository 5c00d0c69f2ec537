-- By whether the text has the place of the next block.
use mathlib.Core.Path.{◌≡◌, sym}
use Prim.Native.Nat.{◌-◌}
use native.Mathlib.Omega.{arith}
use lib.ListN.{drop}
use Rattle.text.specs.Lines.{blanks}
use Rattle.stretches.proofs.Lookahead.{ahead-some, ahead_none}
use Rattle.stretches.proofs.look_ahead.Goals as goal

pub returns-then-text-offset : goal.returns-then-text-offset
returns-then-text-offset c =
    let a = c.args in
    sym (ahead_none a.reader a.text.now a.from (omega (arith, c.next_block-offset.ensures)))

pub returns : goal.returns
returns c =
    let a = c.args in
    let n = c.next_block-offset.ensures in
    let k : c.next_block-offset.result - a.from.offset ≡ blanks (drop a.from.offset a.text.now) = omega (arith, n) in
    rw (c.decode.ensures, k, n) (sym (ahead-some a.reader a.text.now a.from (omega (arith, n))))
