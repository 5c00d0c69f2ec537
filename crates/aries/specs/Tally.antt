-- The tally of hits by tool, as it is taken from a finished list. (Document 02, §4.)
use Rattle.std.specs.Prelude.{Bool, false, cond, List, [], ◌∷◌, ◌++◌, ℕ, zero, suc, ◌+◌, ◌*◌, eqb, length, replicate}
use Rattle.aries.specs.declared.entry.Entry.{Entry}
use Rattle.aries.specs.Numbers.{last_tool}

-- ---- Where a tool stands

-- an entry is a hit with a tool
abbrev pub is_hit_by : ℕ → Entry → Bool
is_hit_by tool (Entry.Hit h) = eqb h.tool tool
is_hit_by tool (Entry.Stop optional) = false

-- the indexes of the hits with a tool, in order, the first entry having index i; stops have indexes too
unfoldable pub indexes_from : ℕ → ℕ → List Entry → List ℕ
indexes_from tool i [] = []
indexes_from tool i (e ∷ es) = cond (is_hit_by tool e) (i ∷ indexes_from tool (suc i) es) (indexes_from tool (suc i) es)

-- the first entry of a list has index 1
abbrev pub indexes_of : ℕ → List Entry → List ℕ
indexes_of tool es = indexes_from tool 1 es

-- ---- Its three figures

-- the first of some indexes; 0 if there is none
abbrev pub first_of : List ℕ → ℕ
first_of [] = 0
first_of (i ∷ is) = i

-- the last of some indexes that come after another; that one if there is none
abbrev pub last_after : ℕ → List ℕ → ℕ
last_after i [] = i
last_after i (j ∷ js) = last_after j js

-- the last of some indexes; 0 if there is none
abbrev pub last_of : List ℕ → ℕ
last_of is = last_after 0 is

-- the figures of a tool, by the indexes of its hits: how many they are, the first and the last
abbrev pub figures : List ℕ → List ℕ
figures is = length is ∷ first_of is ∷ last_of is ∷ []

-- ---- The tally

-- the figures of so many tools, from one on
unfoldable pub tally_from : ℕ → ℕ → List Entry → List ℕ
unfolding indexes_from
tally_from tool zero es = []
tally_from tool (suc n) es = figures (indexes_of tool es) ++ tally_from (suc tool) n es

-- those of all tools, in tool order
unfoldable pub tally_of : List Entry → List ℕ
unfolding tally_from
tally_of es = tally_from 1 last_tool es

-- the figures of a tally
abbrev pub figure_count : ℕ
figure_count = 3 * last_tool

-- a tally without hits
abbrev pub no_tally : List ℕ
no_tally = replicate figure_count 0

-- the hits of all tools
unfoldable pub hits_tallied : List ℕ → ℕ
hits_tallied [] = 0
hits_tallied (hits ∷ []) = 0
hits_tallied (hits ∷ first ∷ []) = 0
hits_tallied (hits ∷ first ∷ last ∷ rest) = hits + hits_tallied rest
