-- The places that pass are counted, and each is read first.
use Rattle.std.proofs.Common.{rules, ◌≡◌}
use Rattle.std.specs.List.{count_by}
use Rattle.drawings.specs.Holes.{is_at}
use Rattle.drawings.proofs.Counts.{count_by-map}
use Rattle.drawings.proofs.count.times.Goals as goal

pub returns : goal.returns
returns g c =
    let places = c.args.places.now in
    let counted : c.count.result ≡ count_by (λ p. is_at c.args.hole (g.P.Place.hole_of p)) places = search rules in
    let mapped = count_by-map g.P.Place.hole_of (is_at c.args.hole) places in
    cc
