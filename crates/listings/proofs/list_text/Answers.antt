-- What is counted fits the list, so the listing has room.
use Rattle.std.proofs.Common.{rules, arith}
use Rattle.tolkjirp.proofs.Counts.{count-within}
use Rattle.listings.proofs.list_text.Goals as goal

pub render-start-requires : goal.render-start-requires
render-start-requires c =
    let x = c.expand-answer in
    omega (arith, count-within x.result x.new.list x.new.tally _ _ x.ensures (search rules))
