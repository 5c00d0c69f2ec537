-- The position of the first that passes, counted from 1.
use Rattle.std.proofs.Common.{rules, tests, ◌≡◌, ◌+◌, ◌∙◌}
use Rattle.std.proofs.lemmas.Iterator.{YieldsList-from_slice}
use Rattle.std.proofs.lemmas.Iterator.Search.{position_from_yields_List}
use Rattle.std.specs.Option.{option_map}
use Rattle.drawings.specs.Holes.{is_at}
use Rattle.drawings.proofs.Counts.{position_from-one}
use Rattle.drawings.proofs.count.first_place.Goals as goal

pub returns : goal.returns
returns g c =
    let places = c.args.places.now in
    let found = position_from_yields_List (λ p. is_at c.args.hole (g.P.Place.hole_of p)) _ _ c.position.result c.position.ensures.ran
    (YieldsList-from_slice places cc) (λ x b q k. search (rules, tests)) in
    let numbered : c.map.result ≡ option_map (λ i. i + 1) c.position.result = search rules in
    numbered ∙ position_from-one g.P.Place.hole_of (is_at c.args.hole) places c.position.result found
