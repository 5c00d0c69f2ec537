-- A steady frame has spans within the limit.
use native.Mathlib.Omega.{arith}
use Rattle.aries.proofs.Judging.{near_both}
use Rattle.aries.proofs.state.Frame.mirrored.Goals as goal

pub opened-mirror-requires : goal.opened-mirror-requires
opened-mirror-requires c =
    let s = c.before in
    let n = near_both s.args.spans s.requires.1 in
    record { span_bound = (omega (arith, s.requires.0.x_span), n.0); span_bound_2 = (omega (arith, s.requires.0.y_span), n.1) }

pub returns : goal.returns
returns c = rw c.opened-mirror.ensures
