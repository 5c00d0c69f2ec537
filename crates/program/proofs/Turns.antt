-- Laws of turns: what is left behind the lines from a place on.
use Rattle.std.specs.Prelude.{Ok, Err}
use mathlib.Core.Path.{◌≡◌, sym, ap, subst, ◌∙◌}
use mathlib.Core.List.{List}
use Prim.Native.Nat.{ℕ}
use Rattle.aries.specs.declared.block.Block.{Block}
use Rattle.aries.specs.declared.location.Location.{Location}
use Rattle.aries.specs.declared.setup.Program.{Program}
use Rattle.aries.specs.declared.state.Progress.{Progress}
use Rattle.aries.specs.Outcome.{Out}
use Rattle.aries.specs.Entries.{Made, and_then}
use Rattle.aries.specs.Judging.{limits}
use Rattle.aries.specs.Program.{with_progress}
use Rattle.aries.specs.Runs.{Lent, entries_of_program, Ran}
use Rattle.aries.specs.Steady.{GivenNear}
use Rattle.turns.specs.declared.turn.Next.TheVariants.{Line}
use Rattle.turns.specs.Turns.{Turn, placed, lines_from, left_of, place_of, Settles, Near, TurnNear}
use Rattle.program.specs.Lines.{Beyond, Leads, Turns}

module _ (t : List ℕ) (from : Location) (p : Program) where
  -- lines that make no entry
  pub leads_same :
      (r : Turn) → left_of (limits p.setup.job) t r.next r.program ≡ lines_from (limits p.setup.job) t from p
      → r.program.progress.entries ≡ p.progress.entries → r.program.setup.job ≡ p.setup.job → Beyond t from (place_of r.next) → (Near p → TurnNear r)
      → (l : Lent) → Leads r t from p l l
  leads_same r same entries job comes near l =
      record {
        leads = λ result last h.
            subst (λ (k : ℕ). Ran entries_of_program p.setup.job result l last k (lines_from (limits p.setup.job) t from p)) entries
            (subst (λ (o : Out (Made Program)). Ran entries_of_program p.setup.job result l last r.program.progress.entries o) same h);
        job = job;
        comes = comes;
        near = near;
      }

  -- lines further on are left
  pub leads_line :
      {q : Program} {place : Location} → q.setup ≡ p.setup → q.progress ≡ p.progress → Beyond t from place
      → lines_from (limits p.setup.job) t place q ≡ lines_from (limits p.setup.job) t from p
      → (l : Lent) → Leads (record { program = q; next = Line place }) t from p l l
  leads_line setup progress b same l =
      leads_same (record { program = _; next = Line _ }) same (ap (λ g. g.entries) progress) (ap (λ s. s.job) setup) b (λ n. (rw (setup, progress) n, tt)) l

  -- a block that was settled, which found a progress of its own
  pub turns_settled :
      {g : Progress} (end : Location) (b : Block) (out : Out Turn) → Settles out end b (with_progress p g) → g.entries ≡ p.progress.entries → Beyond t from end
      → (GivenNear p.progress.state → GivenNear g.state)
      → lines_from (limits p.setup.job) t from p ≡ and_then (placed (limits p.setup.job) t end b (with_progress p g)) (lines_from (limits p.setup.job) t end)
      → (l : Lent) → Turns out t from p l l
  turns_settled end b (Err e) settled h far kept same l = same ∙ sym (settled.same t)
  turns_settled end b (Ok r) settled h far kept same l =
      let q = settled.quiet in
      leads_same r (settled.same t ∙ sym same) (q.entries ∙ h) q.job (subst (Beyond t from) (sym q.comes) far) (λ n. q.near (n.0, kept n.1)) l
