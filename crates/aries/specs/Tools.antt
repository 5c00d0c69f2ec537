-- What is proved of tools and of the tally, for every text: its setting, its bytes, and how many numbers its lent list has.
-- (Document 02, §4.)
use Rattle.std.specs.Prelude.{◌≡◌, List, [], ◌∷◌, ℕ, ◌≤◌, ℤ, length, Ok}
use Rattle.aries.specs.declared.entry.Entry.{Entry}
use Rattle.aries.specs.declared.entry.Hit.{Hit}
use Rattle.aries.specs.Numbers.{last_tool}
use Rattle.aries.specs.Entries.{hits_in}
use Rattle.aries.specs.Tally.{tally_of, hits_tallied}
use Rattle.aries.specs.Program.{expand}

-- all hits have a tool from 1 to 99
unfoldable pub AllNamed : List Hit → Type 0
AllNamed [] = Unit {0}
AllNamed (h ∷ hs) = (1 ≤ h.tool) × (h.tool ≤ last_tool) × AllNamed hs

-- So it is with the hits of every text that is accepted,
abbrev pub ToolsNamed : Type 0
ToolsNamed =
    (setting : ℤ) (text : List ℕ) (numbers : ℕ) (entries : List Entry) → expand setting text numbers ≡ Ok entries
    → AllNamed (hits_in entries)

-- and the hits of all tools add up to its entries that are not stops.
abbrev pub TallyAddsUp : Type 0
TallyAddsUp =
    (setting : ℤ) (text : List ℕ) (numbers : ℕ) (entries : List Entry) → expand setting text numbers ≡ Ok entries
    → hits_tallied (tally_of entries) ≡ length (hits_in entries)
