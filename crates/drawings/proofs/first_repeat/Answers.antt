-- What `find_map` says at each index, and the definition by recursion.
use Rattle.std.proofs.Common.{rules, ◌≡◌, [], map, sym, ap, ◌∙◌}
use Rattle.drawings.specs.Holes.{entry_hole, list_holes}
use Rattle.drawings.specs.Repeats.{repeat_after, first_repeat}
use Rattle.drawings.proofs.Holes.{holes_of_entries}
use Rattle.drawings.proofs.Repeats.{IsFirstRepeat, repeat_after_from}
use Rattle.drawings.proofs.first_repeat.Goals as goal

pub returns : goal.returns
unfolding first_repeat
returns c =
    let entries = c.as_chunks.result.0.now in
    let found : IsFirstRepeat entry_hole [] [] entries c.find_map.result = search rules in
    let read : map entry_hole entries ≡ list_holes c.args.list.now = rw c.as_chunks.ensures.front (holes_of_entries c.args.list.now) in
    sym (repeat_after_from entry_hole [] [] entries c.find_map.result found) ∙ ap (repeat_after []) read
