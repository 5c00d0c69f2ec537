-- Each turn is a hit of each pattern whose hits lie there.
use Rattle.std.specs.Prelude.{Err}
use mathlib.Core.Path.{◌≡◌}
use native.Mathlib.Omega.{arith}
use borrow.Author.Rules.{rules}
use Rattle.patterns.proofs.Comes.{under_next, hits_refused, hits_end}
use Rattle.patterns.proofs.series.Series.punch_each.Goals as goal

pub returns-in_err-reached : goal.returns-in_err-reached
returns-in_err-reached g c =
    λ p lie line progress.
    let a = c.args in
    let is = lie c.loop-k.k c.place.result c.loop-k-test.true c.place.ensures in
    let e : c.from_residual.result ≡ Err c.in_err-reached.field-0.0 = search rules in
    rw e
    (hits_refused a.self p a.count (c.loop-k.invariant p lie) c.loop-k-test.true is (λ l q. rw c.in_err-reached.was at (c.punch_next.ensures l q)) line progress)

pub loop-k-preserved : goal.loop-k-preserved
loop-k-preserved g c =
    λ p lie.
    let a = c.args in
    let is = lie c.loop-k.k c.place.result c.loop-k-test.true c.place.ensures in
    under_next a.self p a.count (c.loop-k.invariant p lie) c.loop-k-test.true is (λ l q. rw c.in_ok-reached.was at (c.punch_next.ensures l q))

pub returns : goal.returns
returns g c =
    λ p lie.
    let a = c.args in
    hits_end a.self p a.count (c.loop-k.invariant p lie) (omega arith)
