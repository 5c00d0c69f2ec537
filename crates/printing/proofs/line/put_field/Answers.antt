-- The number, read back from the word that holds it.
use Rattle.std.proofs.Common.{arith, w32}
use Rattle.std.proofs.lemmas.Grind.{common_steps}
use Rattle.signed.proofs.Integers.{read_back}
use Rattle.printing.proofs.Decimals.{signed_word}
use Rattle.printing.proofs.line.put_field.Goals as goal

pub put_signed-number-requires : goal.put_signed-number-requires
put_signed-number-requires c =
    let n = c.number_at in
    let same = read_back w32 n.result n.type_inv in
    let short = signed_word n.result (record { sfits = n.type_inv }) in
    grind (arith, common_steps)

pub put_byte-requires : goal.put_byte-requires
put_byte-requires c =
    let n = c.number_at in
    let same = read_back w32 n.result n.type_inv in
    let short = signed_word n.result (record { sfits = n.type_inv }) in
    grind (arith, common_steps)

pub returns-clause-bound : goal.returns-clause-bound
returns-clause-bound c =
    let n = c.number_at in
    let same = read_back w32 n.result n.type_inv in
    let short = signed_word n.result (record { sfits = n.type_inv }) in
    grind (arith, common_steps)
