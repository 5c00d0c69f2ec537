-- Entries, what a run adds to the list, and the numbers of the list. (Document 01, "Moving and punching", "For demand 3, ..",
-- and the list after the seventeen refusals; document 02, §3.)
use Rattle.std.specs.Prelude.{Bool, true, false, List, [], ◌∷◌, ◌++◌, ℤ, pos, Err, Ok}
use Rattle.aries.specs.declared.point.Point.{Point}
use Rattle.aries.specs.declared.entry.Hit.{Hit}
use Rattle.aries.specs.declared.entry.Numbers.{Numbers}
use Rattle.aries.specs.declared.entry.Entry.{Entry}
use Rattle.aries.specs.Outcome.{Out}

-- ---- Entries: an entry (src/entry.rt) is a hit (where, with which tool, and whether in mode N), or a stop (whether it is
-- optional)

-- the hits among entries, in order
unfoldable pub hits_in : List Entry → List Hit
hits_in [] = []
hits_in (Entry.Hit h ∷ es) = h ∷ hits_in es
hits_in (Entry.Stop optional ∷ es) = hits_in es

-- a hit at another place
abbrev pub hit_placed : (Point → Point) → Hit → Hit
hit_placed to h = record { place = to h.place; tool = h.tool; nibble = h.nibble }

-- an entry, if it is a hit, at another place; a stop stays as it was
abbrev pub placed_by : (Point → Point) → Entry → Entry
placed_by to (Entry.Hit h) = Entry.Hit (hit_placed to h)
placed_by to (Entry.Stop optional) = Entry.Stop optional

-- ---- Numbers

-- the mode of a hit: N is number 1, P number 0
abbrev pub mode_number : Bool → ℤ
mode_number true = pos 1
mode_number false = pos 0

-- the mode of a stop: that of M01, an optional stop, is number 3, that of M00 number 2
abbrev pub stop_number : Bool → ℤ
stop_number true = pos 3
stop_number false = pos 2

-- four numbers an entry: X, Y, tool, mode; X, Y and tool of a stop are zero
abbrev pub numbers_of : Entry → Numbers
numbers_of (Entry.Hit h) = record { x = h.place.x; y = h.place.y; tool = pos h.tool; mode = mode_number h.nibble }
numbers_of (Entry.Stop optional) = record { x = pos 0; y = pos 0; tool = pos 0; mode = stop_number optional }

-- the numbers of entries, one entry after the other
unfoldable pub cells : List Entry → List ℤ
cells [] = []
cells (e ∷ es) = (numbers_of e).x ∷ (numbers_of e).y ∷ (numbers_of e).tool ∷ (numbers_of e).mode ∷ cells es

-- ---- What is made

-- what something carried out leaves: the entries that it adds, and all else
pub record Made (A : Type 0) : Type 0 where
  pub entries : List Entry
  pub after : A

-- no entry is made
abbrev pub no_entry : {A : Type 0} → A → Out (Made A)
no_entry a = Ok (record { entries = []; after = a })

-- entries, and then what is made
abbrev pub adding : {A : Type 0} → List Entry → Out (Made A) → Out (Made A)
adding es (Err e) = Err e
adding es (Ok m) = Ok (record { entries = es ++ m.entries; after = m.after })

-- one thing after the other, up to the first refusal
abbrev pub and_then : {A : Type 0} → Out (Made A) → (A → Out (Made A)) → Out (Made A)
and_then (Err e) f = Err e
and_then (Ok m) f = adding m.entries (f m.after)

-- the same entries, and what is left seen as part of something larger
abbrev pub map_after : {A B : Type 0} → (A → B) → Out (Made A) → Out (Made B)
map_after f (Err e) = Err e
map_after f (Ok m) = Ok (record { entries = m.entries; after = f m.after })
