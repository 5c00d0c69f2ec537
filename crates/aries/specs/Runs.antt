-- What a function of the code promises that carries something out, against a definition: its result, and what is lent. After a
-- refusal the papers leave what is lent free, until the list is cleared.
use Rattle.std.specs.Prelude.{◌≡◌, cond, List, [], ◌∷◌, ℕ, ◌+◌, ◌*◌, ◌/◌, ◌≤◌, ltb, ℤ, length, set, Ok, Err}
use Rattle.aries.specs.declared.job.Job.{Job}
use Rattle.aries.specs.declared.state.Frame.{Frame}
use Rattle.aries.specs.declared.state.Progress.{Progress}
use Rattle.aries.specs.declared.setup.Program.{Program}
use Rattle.aries.specs.Outcome.{Out}
use Rattle.aries.specs.declared.entry.Entry.{Entry}
use Rattle.aries.specs.Entries.{Made, numbers_of}
use Rattle.aries.specs.Tallying.{tally_put}
use Rattle.aries.specs.Judging.{Judging, limits}

-- what is left, or the refusal; the entries are not handed back but put into the list that is lent
abbrev pub left_of : {A : Type 0} → Out (Made A) → Out A
left_of (Ok m) = Ok m.after
left_of (Err e) = Err e

-- ---- What is lent

-- the list, and the tally
pub record Lent : Type 0 where
  pub list : List ℤ
  pub tally : List ℕ

abbrev pub lent_both : List ℤ → List ℕ → Lent
lent_both l t = record { list = l; tally = t }

-- the list alone; a tally that is not lent has no numbers
abbrev pub lent : List ℤ → Lent
lent l = lent_both l []

-- the list with an entry at place k, four numbers a place
abbrev pub write : List ℤ → ℕ → Entry → List ℤ
write l k e =
    set
    (set (set (set l (4 * k) (numbers_of e).x) (4 * k + 1) (numbers_of e).y) (4 * k + 2) (numbers_of e).tool)
    (4 * k + 3)
    (numbers_of e).mode

-- the list with an entry at place k, where it has that place
abbrev pub list_put : List ℤ → ℕ → Entry → List ℤ
list_put l k e = cond (ltb k (length l / 4)) (write l k e) l

-- an entry at place k
abbrev pub put : Lent → ℕ → Entry → Lent
put l k e = lent_both (list_put l.list k e) (tally_put l.tally k e)

-- entries from place k on
unfoldable pub over : Lent → ℕ → List Entry → Lent
over l k [] = l
over l k (e ∷ es) = over (put l k e) (k + 1) es

-- ---- What is left

-- What a function answers that is lent a progress, a program or the like, and what it leaves there: that, or its refusal. After a
-- refusal the papers leave free what is there.
abbrev pub leaving : {A B : Type 0} → Out A → B → Out B
leaving (Ok a) left = Ok left
leaving (Err e) left = Err e

-- ---- What was done

-- A result with its count of entries, and what is lent before and after, against what the definitions make, from place k on: it
-- is what they leave, or their refusal; where they accept, just their entries were put, the count goes with them, and they had
-- places.
pub record Ran {A : Type 0} (count : A → ℕ) (job : Job) (result : Out A) (before after : Lent) (k : ℕ) (out : Out (Made A)) : Type 0 where
  pub same : result ≡ left_of out
  pub written : (m : Made A) → out ≡ Ok m → after ≡ over before k m.entries
  pub counted : (m : Made A) → out ≡ Ok m → count m.after ≡ k + length m.entries
  pub fitted : (m : Made A) → out ≡ Ok m → k ≤ job.places → count m.after ≤ job.places

abbrev pub entries_made : Progress → ℕ
entries_made g = g.entries

-- Something carried out in a frame from a progress on, by what it is under the limits of its job.
abbrev pub Carried : Out Progress → Frame → Lent → Lent → Progress → (Judging → Progress → Out (Made Progress)) → Type 0
Carried r f before after g what = Ran entries_made f.job r before after g.entries (what (limits f.job) g)

abbrev pub entries_of_program : Program → ℕ
entries_of_program p = p.progress.entries

-- Lines outside bodies, from a program on.
abbrev pub Advanced : Out Program → Lent → Lent → Program → (Judging → Program → Out (Made Program)) → Type 0
Advanced r before after p what = Ran entries_of_program p.setup.job r before after p.progress.entries (what (limits p.setup.job) p)
