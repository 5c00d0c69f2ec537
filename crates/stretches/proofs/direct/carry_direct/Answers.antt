-- The hits of a block have one tool, so they are counted in one go.
use mathlib.Core.Path.{sym, ◌∙◌}
use Rattle.aries.specs.Judging.{limits}
use Rattle.stretches.proofs.Counted.{hits_accepted, nothing_counted}
use Rattle.stretches.proofs.direct.carry_direct.Goals as goal

pub returns-then-makes_hits : goal.returns-then-makes_hits
returns-then-makes_hits c =
    let a = c.args in
    rw c.count_hits.ensures
    (hits_accepted (limits a.frame.job) a.frame a.line a.progress.now a.tally.now a.block (rw c.in_ok-carry_out.was at c.carry_out.ensures) (sym c.makes_hits.ensures ∙ c.if-makes_hits.true))

pub returns-else-makes_hits : goal.returns-else-makes_hits
returns-else-makes_hits c =
    let a = c.args in
    nothing_counted (limits a.frame.job) a.frame a.line a.progress.now a.tally.now a.block (rw c.in_ok-carry_out.was at c.carry_out.ensures) (sym c.makes_hits.ensures ∙ c.if-makes_hits.false)
