-- Holes: those of a drawing's table, row by row, and those that a list makes, entry by entry.
use Rattle.std.specs.Prelude.{Bool, false, if◌then◌else◌, ◌&&◌, ◌||◌, Option, None, Some, List, [], ◌∷◌, ℤ, pos, slice_index_or}
use Rattle.std.specs.Ordering.{int_eq}
use Rattle.drawings.specs.declared.hole.Hole.{Hole}

-- ---- A hole (src/hole.rt) is X and Y in hundredths of a millimetre, and the tool

-- two holes are one where X, Y and tool are the same
abbrev pub same_hole : Hole → Hole → Bool
same_hole a b = int_eq a.x b.x && (int_eq a.y b.y && int_eq a.tool b.tool)

-- a hole is the one that stands somewhere; at a stop none does
abbrev pub is_at : Hole → Option Hole → Bool
is_at h None = false
is_at h (Some k) = same_hole k h

-- ---- Those of a table

-- Three numbers a row; numbers left over at the end are none.
unfoldable pub table_holes : List ℤ → List (Option Hole)
table_holes [] = []
table_holes (x ∷ []) = []
table_holes (x ∷ y ∷ []) = []
table_holes (x ∷ y ∷ tool ∷ rest) = Some (record { x = x; y = y; tool = tool }) ∷ table_holes rest

-- ---- Those of a list

-- mode 2 is that of M00, mode 3 that of M01
abbrev pub is_stop : ℤ → Bool
is_stop mode = int_eq mode (pos 2) || int_eq mode (pos 3)

-- a stop makes no hole; whether a hit punches or nibbles is not looked at
abbrev pub hit_of : ℤ → Hole → Option Hole
hit_of mode h = if is_stop mode then None else Some h

-- Four numbers an entry; numbers left over at the end are none.
unfoldable pub list_holes : List ℤ → List (Option Hole)
list_holes [] = []
list_holes (x ∷ []) = []
list_holes (x ∷ y ∷ []) = []
list_holes (x ∷ y ∷ tool ∷ []) = []
list_holes (x ∷ y ∷ tool ∷ mode ∷ rest) = hit_of mode (record { x = x; y = y; tool = tool }) ∷ list_holes rest

-- ---- That of a single row or entry, by the places of its numbers

abbrev pub hole_from : List ℤ → Hole
hole_from numbers = record { x = slice_index_or numbers 0 (pos 0); y = slice_index_or numbers 1 (pos 0); tool = slice_index_or numbers 2 (pos 0) }

abbrev pub row_hole : List ℤ → Option Hole
row_hole row = Some (hole_from row)

abbrev pub entry_hole : List ℤ → Option Hole
entry_hole entry = hit_of (slice_index_or entry 3 (pos 0)) (hole_from entry)
