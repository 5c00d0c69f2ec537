-- A body that is found among what is stored.
use Rattle.std.specs.Prelude.{Option, Some, None}
use Rattle.aries.specs.Macros as Macros
use Rattle.bodies.specs.declared.Body.{Body}

-- its bytes and the number of its first line
abbrev pub body_of : Body → Macros.Body
body_of b = record { line = b.line; bytes = b.bytes.now }

abbrev pub found_of : Option Body → Option Macros.Body
found_of None = None
found_of (Some b) = Some (body_of b)
