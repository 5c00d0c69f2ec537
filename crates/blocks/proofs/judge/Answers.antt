-- The kind that the words have is the one that they are judged by.
use Rattle.std.proofs.Common.{rules, ◌≡◌}
use Rattle.std.specs.Prelude.{Some}
use Rattle.aries.specs.Forms.{kind_of}
use Rattle.blocks.proofs.judge.Goals as goal

pub returns-clause-value : goal.returns-clause-value
returns-clause-value c =
    let known : kind_of c.args.line.now.words ≡ Some c.in_ok-kind.kind = search rules in
    rw known (search rules)
