-- A tally as it is kept up while entries come. That it is then the one of the finished list (`Tally`) is proved.
use Rattle.std.specs.Prelude.{cond, ◌&&◌, List, ℕ, ◌+◌, ◌-◌, ◌*◌, eqb, ltb, get_or, set, None, Option, Some}
use Rattle.aries.specs.declared.entry.Entry.{Entry}
use Rattle.aries.specs.Test.{within}
use Rattle.aries.specs.Numbers.{last_tool}

-- the least number that 64 bits do not hold
abbrev pub too_wide : ℕ
too_wide = 18446744073709551616

-- a number of 64 bits; what is above the largest stays there
abbrev pub capped : ℕ → ℕ
capped n = cond (ltb n too_wide) n (too_wide - 1)

-- a figure of a tally
abbrev pub figure : List ℕ → ℕ → ℕ
figure t at = get_or t at 0

-- a tally with these three from a place on: hits, first index and last index
abbrev pub with_figures : List ℕ → ℕ → ℕ → ℕ → ℕ → List ℕ
with_figures t at hits first last = set (set (set t at hits) (at + 1) first) (at + 2) last

-- Hits with the tool whose figures stand there, at places of the list from one up to another: so many hits more, a first
-- index where there was none, and the last.
abbrev pub hits_noted : List ℕ → ℕ → ℕ → ℕ → List ℕ
hits_noted t at from to =
    with_figures t at (capped (figure t at + (to - from))) (cond (eqb (figure t (at + 1)) 0) (from + 1) (figure t (at + 1))) to

-- the tally with such hits, where there are any and the tool is one of those counted
abbrev pub with_hits : List ℕ → ℕ → ℕ → ℕ → List ℕ
with_hits t tool from to = cond (within 1 last_tool tool && ltb from to) (hits_noted t (3 * (tool - 1)) from to) t

-- the same of the tool chosen; where none is there are no hits
abbrev pub with_chosen : List ℕ → Option ℕ → ℕ → ℕ → List ℕ
with_chosen t None from to = t
with_chosen t (Some tool) from to = with_hits t tool from to

-- the tally with an entry at place k; a stop is not counted
abbrev pub tally_put : List ℕ → ℕ → Entry → List ℕ
tally_put t k (Entry.Hit h) = with_hits t h.tool k (k + 1)
tally_put t k (Entry.Stop optional) = t
