-- A text under way: whoever carries out what is left of it has carried out the whole. What each kind of turn makes of that.
use Rattle.std.specs.Prelude.{Ok, Err}
use mathlib.Core.Path.{◌≡◌, refl, ap, subst, ◌∙◌}
use mathlib.Core.List.{List}
use Prim.Native.Nat.{ℕ, ◌+◌, ◌≤◌}
use native.Mathlib.Omega.{arith}
use lib.ListN.{length}
use Rattle.aries.specs.declared.block.Block.{Block}
use Rattle.aries.specs.declared.job.Job.{Job}
use Rattle.aries.specs.declared.location.Location.{Location}
use Rattle.aries.specs.declared.refusal.Refused.{Refused}
use Rattle.aries.specs.declared.setup.Program.{Program}
use Rattle.aries.specs.declared.setup.Setup.{Setup}
use Rattle.aries.specs.Outcome.{Out}
use Rattle.aries.specs.Entries.{Made, and_then}
use Rattle.aries.specs.Judging.{limits, near}
use Rattle.aries.specs.Program.{fresh_program, run_from}
use Rattle.aries.specs.Runs.{Lent, entries_of_program, Ran}
use Rattle.aries.specs.Text.{lines}
use Rattle.aries.proofs.Runs.{ran-refused, Leads, leads-start, leads_as, leads_on, leads_out, leads_end}
use Rattle.turns.specs.declared.turn.Next.{Next}
use Rattle.turns.specs.Turns.{carried, lines_from, left_of, place_of, Near}
use Rattle.program.specs.Lines.{Beyond, Turns, Carries}
use Rattle.program.specs.Lines as Lines
use Rattle.program.proofs.RunFrom.{text_end}

module _ (job : Job) (l₀ : Lent) (t : List ℕ) where
  abbrev pub whole : Out (Made Program)
  whole = run_from (limits job) t 0 1 (lines t) (fresh_program job)

  -- what is left, from what is lent and a count of entries on
  abbrev Left : Lent → ℕ → Out (Made Program) → Type 0
  Left l k rest = Leads entries_of_program job l k rest l₀ 0 whole

  pub record Underway (l : Lent) (p : Program) (from : Location) : Type 0 where
    pub same-job : p.setup.job ≡ job
    pub inside : from.offset ≤ length t + 1
    pub numbered : from.line ≤ from.offset + 1
    pub near : Near p
    pub leads : Left l p.progress.entries (lines_from (limits job) t from p)

  pub underway_start : Underway l₀ (fresh_program job) (record { offset = 0; line = 1 })
  unfolding near
  underway_start = record { same-job = refl; inside = omega arith; numbered = omega arith; near = (refl, refl); leads = leads-start refl }

module _ {job : Job} {l₀ l : Lent} {t : List ℕ} {p : Program} {from : Location} (u : Underway job l₀ t l p from) where
  -- the end of the text
  pub underway_end : length t ≤ from.offset → Ran entries_of_program job (Ok p) l₀ l 0 (whole job l₀ t)
  underway_end h = leads_end (leads_as (text_end (limits job) t from p h) u.leads)

  module _ {l' : Lent} where
    -- a turn that was refused
    pub turn-refused : {e : Refused} → Turns (Err e) t from p l l' → Ran entries_of_program job (Err e) l₀ l' 0 (whole job l₀ t)
    turn-refused {e} turn =
        leads_as (subst (λ (k : Job). lines_from (limits k) t from p ≡ Err e) u.same-job turn) u.leads (Err e) l' ran-refused

    -- one that leads on
    module _ {q : Program} {n : Next} (turn : Lines.Leads (record { program = q; next = n }) t from p l l') where
      q-job : q.setup.job ≡ job
      q-job = turn.job ∙ u.same-job

      left : Left job l₀ t l' q.progress.entries (left_of (limits job) t n q)
      left result last h =
          u.leads result last
          (subst
          (λ (k : Job).
          Ran entries_of_program k result l' last q.progress.entries (left_of (limits k) t n q)
          → Ran entries_of_program k result l last p.progress.entries (lines_from (limits k) t from p))
          u.same-job (turn.leads result last) h)

      -- to lines
      pub turn-line : {place : Location} → n ≡ Next.Line place → Underway job l₀ t l' q place
      turn-line {place} e =
          let b : Beyond t from place = subst (λ (n : Next). Beyond t from (place_of n)) e turn.comes in
          record {
            same-job = q-job;
            inside = b.inside;
            numbered = b.numbered;
            near = (turn.near u.near).0;
            leads = leads_as (ap (λ (n : Next). left_of (limits job) t n q) e) left;
          }

      -- to a block, in a line that ends further on
      module _
          {end : Location} {b : Block} (far : Beyond t from end)
          (is : left_of (limits job) t n q ≡ and_then (carried (limits job) t end b q) (lines_from (limits job) t end)) where
        ran_here :
            {out : Out Program} {l'' : Lent} → Carries out t end b q l' l'' → Ran entries_of_program job out l' l'' q.progress.entries (carried (limits job) t end b q)
        ran_here {out} {l''} done = subst (λ (k : Job). Ran entries_of_program k out l' l'' q.progress.entries (carried (limits k) t end b q)) q-job done.runs

        pub block_refused : {e : Refused} {l'' : Lent} → Carries (Err e) t end b q l' l'' → Ran entries_of_program job (Err e) l₀ l'' 0 (whole job l₀ t)
        block_refused done = leads_out (carried (limits job) t end b q) (lines_from (limits job) t end) (ran_here done) (leads_as is left)

        pub block-passed : {r : Program} {l'' : Lent} → Carries (Ok r) t end b q l' l'' → Underway job l₀ t l'' r end
        block-passed done =
            record {
              same-job = ap (λ (x : Setup). x.job) done.keeps.setup ∙ q-job;
              inside = far.inside;
              numbered = far.numbered;
              near = (ap (λ (x : Setup). near x.origin) done.keeps.setup ∙ (turn.near u.near).0.0, done.keeps.given);
              leads = leads_on (carried (limits job) t end b q) (lines_from (limits job) t end) (ran_here done) (leads_as is left);
            }

      -- to a block that runs stored bodies or stores one
      module _ {come : Next} (next : n ≡ come) where
        abbrev end : Location
        end = place_of come

        -- what is left then
        abbrev Comes : Block → Type 0
        Comes b = left_of (limits job) t come q ≡ and_then (carried (limits job) t end b q) (lines_from (limits job) t end)

        far_there : Beyond t from end
        far_there = subst (λ (x : Next). Beyond t from (place_of x)) next turn.comes

        there : (b : Block) → Comes b → left_of (limits job) t n q ≡ and_then (carried (limits job) t end b q) (lines_from (limits job) t end)
        there b is = ap (λ (x : Next). left_of (limits job) t x q) next ∙ is

        pub next-refused : {b : Block} {e : Refused} {l'' : Lent} → Comes b → Carries (Err e) t end b q l' l'' → Ran entries_of_program job (Err e) l₀ l'' 0 (whole job l₀ t)
        next-refused {b} is done = block_refused far_there (there b is) done

        pub next-passed : {b : Block} {r : Program} {l'' : Lent} → Comes b → Carries (Ok r) t end b q l' l'' → Underway job l₀ t l'' r end
        next-passed {b} is done = block-passed far_there (there b is) done
