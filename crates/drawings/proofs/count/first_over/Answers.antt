-- The position of the first that is over, counted from 1.
use Rattle.std.proofs.Common.{rules, tests, ◌≡◌, map, ◌+◌, ◌∙◌}
use Rattle.std.proofs.lemmas.Iterator.{YieldsList-from_slice}
use Rattle.std.proofs.lemmas.Iterator.Search.{position_from_yields_List}
use Rattle.std.specs.Option.{option_map}
use Rattle.drawings.specs.Counts.{is_over}
use Rattle.drawings.proofs.Counts.{position_from-one}
use Rattle.drawings.proofs.count.first_over.Goals as goal

pub returns : goal.returns
returns g c =
    let these = c.args.these.now in
    let over = is_over (map g.P.Place.hole_of these) (map g.Q.Place.hole_of c.args.those.now) in
    let found = position_from_yields_List (λ p. over (g.P.Place.hole_of p)) _ _ c.position.result c.position.ensures.ran
    (YieldsList-from_slice these cc) (λ x b q k. search (rules, tests)) in
    let numbered : c.map.result ≡ option_map (λ i. i + 1) c.position.result = search rules in
    numbered ∙ position_from-one g.P.Place.hole_of over these c.position.result found
