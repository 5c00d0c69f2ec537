-- A run that is accepted: its part is stored, a layout is in force, and it is the copies at the layout's places; so its
-- entries are the part's own entries, moved to each place in turn.
use Rattle.std.specs.Prelude.{None, Ok, Option, Some}
use mathlib.Core.Path.{◌≡◌, refl, sym, ap, ap₂, ◌∙◌}
use mathlib.Core.Bool.{Bool}
use mathlib.Core.List.{map}
use Prim.Native.Nat.{ℕ}
use Rattle.aries.specs.declared.refusal.Refusal.TheVariants.{NotStored, NoLayout}
use Rattle.aries.specs.declared.point.Point.{Point}
use Rattle.aries.specs.declared.block.Copies.{Copies}
use Rattle.aries.specs.declared.block.Layout.{Layout}
use Rattle.aries.specs.declared.state.Progress.{Progress}
use Rattle.aries.specs.Outcome.{Out, ◌>>=◌, given}
use Rattle.aries.specs.Entries.{Made}
use Rattle.aries.specs.Macros.{Body, run_body}
use Rattle.aries.specs.Layouts.{copy_count, copy_place, copy_all, copy_over, copy_part}
use Rattle.aries.specs.CopyRuns.{Circumstances, run, entries_of, moved_by, joined, SamePart}
use Rattle.aries.proofs.Outcomes.{err≢ok}
use Rattle.aries.proofs.Counts.{Counts}
use Rattle.aries.proofs.Parts.{own_from}
use Rattle.aries.proofs.Copies.{judging, copies, copies-entries}

module _ (vertical : Bool) (c : Circumstances) where
  -- the block
  abbrev pub block : Copies
  block = record { vertical = vertical; part = c.part; corner = c.corner }

  -- where copy m of a layout goes
  abbrev pub place : Layout → ℕ → Point
  place l = copy_place c.setup.origin l block

  -- all copies of a layout
  abbrev pub copies_over : Layout → Out (Made Progress)
  copies_over l = copies c (place l) (copy_count l) 0 c.before

  -- what the block does where it finds a sheet, if the part is stored
  over : Option Body → Option Layout → Out (Made Progress)
  over o sheet = ◌>>=◌ (given o NotStored c.line) (λ b. copy_over (judging c) c.bodies b c.setup c.line block sheet c.before)

  run_is_over : run vertical c ≡ over (c.bodies c.part) c.setup.sheet
  unfolding run copy_part over
  run_is_over = refl

  -- with the part stored and a layout in force, it makes the copies
  over_is_copies : (b : Body) (l : Layout) → c.bodies c.part ≡ Some b → over (Some b) (Some l) ≡ copies_over l
  unfolding over copy_all copy_place run_body
  over_is_copies b l e = rw e

  module _ (m : Made Progress) (e : run vertical c ≡ Ok m) where
    -- the part is stored
    pub run-stored : (b : Body) × (c.bodies c.part ≡ Some b)
    unfolding over
    run-stored = go (c.bodies c.part) refl (sym run_is_over ∙ e)
      where
        go : (o : Option Body) → c.bodies c.part ≡ o → over o c.setup.sheet ≡ Ok m → (b : Body) × (c.bodies c.part ≡ Some b)
        go None p q = absurd (err≢ok (record { refusal = NotStored; line = c.line }) m q)
        go (Some b) p q = (b, p)

    -- G98 is in force
    pub run-laid_out : (l : Layout) × (c.setup.sheet ≡ Some l)
    unfolding over copy_all copy_place run_body
    run-laid_out = go c.setup.sheet refl (ap (λ (o : Option Body). over o c.setup.sheet) (sym run-stored.1) ∙ sym run_is_over ∙ e)
      where
        go : (sheet : Option Layout) → c.setup.sheet ≡ sheet → over (Some run-stored.0) sheet ≡ Ok m → (l : Layout) × (c.setup.sheet ≡ Some l)
        go None p q = absurd (err≢ok (record { refusal = NoLayout; line = c.line }) m q)
        go (Some l) p q = (l, p)

    -- it is its copies
    pub run-copies : (l : Layout) → c.setup.sheet ≡ Some l → copies_over l ≡ Ok m
    run-copies l s = sym (over_is_copies run-stored.0 l run-stored.1) ∙ sym (ap₂ over run-stored.1 s) ∙ sym run_is_over ∙ e

    -- its entries, by the own run of whichever run has the same part, whatever was counted before
    pub run-entries :
        (base : Circumstances) → SamePart c base → (n : Counts) (l : Layout) → c.setup.sheet ≡ Some l
        → entries_of (run vertical c) ≡ joined (λ i. map (moved_by (place l i)) (entries_of (own_from base n))) (copy_count l) 0
    run-entries base same n l s = ap entries_of e ∙ copies-entries c base same (place l) n (copy_count l) 0 c.before m (run-copies l s)

  -- copies that are accepted make an accepted run
  pub copies-run :
      (b : Body) (l : Layout) (m : Made Progress) → c.bodies c.part ≡ Some b → c.setup.sheet ≡ Some l → copies_over l ≡ Ok m
      → run vertical c ≡ Ok m
  copies-run b l m p s e = run_is_over ∙ ap₂ over p s ∙ over_is_copies b l p ∙ e
