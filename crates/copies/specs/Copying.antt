-- A part and its copies, as the code goes about them.
use Rattle.std.specs.Prelude.{List, ℕ, drop}
use Rattle.aries.specs.declared.location.Location.{Location}
use Rattle.aries.specs.declared.state.Frame.{Frame}
use Rattle.aries.specs.declared.state.Progress.{Progress}
use Rattle.aries.specs.Outcome.{Out}
use Rattle.aries.specs.Entries.{Made, no_entry}
use Rattle.aries.specs.Judging.{Judging}
use Rattle.aries.specs.Macros.{Body, bodies_of}
use Rattle.aries.specs.Layouts.{Part, part_of, copy_count, copy_place, copy_all}
use Rattle.placing.specs.declared.Places.{Places}
use Rattle.copies.specs.declared.ReadyPart.{ReadyPart}

-- bytes from a place on as a body, with the number of the line there
abbrev pub body_of : Location → List ℕ → Body
body_of from bytes = record { line = from.line; bytes = drop from.offset bytes }

-- a part that is ready to be copied
abbrev pub part_by : Judging → ReadyPart → Part
part_by j p = part_of j (bodies_of p.stored.text.now p.stored.macros.now) (body_of p.source.from p.source.text.now)

-- a part without a block
abbrev pub blank_part : Part
blank_part f g = no_entry g

-- all copies of a part, from the state that is found
abbrev pub all_copies : Judging → Part → Frame → ℕ → Places → Progress → Out (Made Progress)
all_copies j part f line p g = copy_all j part f line g.state (copy_place p.origin p.layout p.copies) (copy_count p.layout) 0 g
