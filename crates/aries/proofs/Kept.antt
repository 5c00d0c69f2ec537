-- A property of the setup that G92, G93 and G98 keep is kept by every line outside bodies.
use Rattle.std.specs.Prelude.{Err, Ok, None, Option, Some}
use mathlib.Core.Path.{◌≡◌, sym, subst}
use mathlib.Core.Bool.{Bool, true, false}
use mathlib.Core.List.{List, [], ◌∷◌}
use Prim.Native.Nat.{ℕ}
use Rattle.aries.specs.declared.refusal.Refused.{Refused}
use Rattle.aries.specs.declared.refusal.Refusal.TheVariants.{OutOfPlace, NoMachine, NotClosed, TooFar}
use Rattle.aries.specs.declared.block.Layout.{Layout}
use Rattle.aries.specs.declared.point.Point.{Point}
use Rattle.aries.specs.declared.block.Outside.{Outside}
use Rattle.aries.specs.declared.block.Block.{Block}
use Rattle.aries.specs.declared.machine.Machine.{Machine}
use Rattle.aries.specs.declared.setup.Stage.TheVariants.{Running}
use Rattle.aries.specs.declared.setup.Setup.{Setup}
use Rattle.aries.specs.declared.setup.Program.{Program}
use Rattle.aries.specs.declared.state.Progress.{Progress}
use Rattle.aries.specs.Outcome.{Out, ◌>>=◌, need}
use Rattle.aries.specs.Entries.{Made, no_entry, and_then, map_after}
use Rattle.aries.specs.Judging.{Judging, judged, near}
use Rattle.aries.specs.Letters.{letter_v}
use Rattle.aries.specs.Text.{starts_with}
use Rattle.aries.specs.Machine.{named}
use Rattle.aries.specs.Moves.{◌⊕◌}
use Rattle.aries.specs.Macros.{bodies_of, most_calls, call, carry, begin}
use Rattle.aries.specs.Layouts.{copy_part}
use Rattle.aries.specs.Bodies.{with_stored, open_body}
use Rattle.aries.specs.Setup.{with_machine, reference_of, with_origin, set_origin, offset_by, ordinary_frame}
use Rattle.aries.specs.Program.{with_progress, with_store, at_stage, in_place, started, settled, carry_outside, carry_out, is_storing, pass_over, run_block_outside, run_line_outside}
use Rattle.aries.proofs.Outcomes.{err≢ok, ok_injective, then_accepted}

-- what is accepted leaves a setup with the property
pub record Keeps (P : Setup → Type 0) (x : Out (Made Program)) : Type 0 where
  pub kept : (m : Made Program) → x ≡ Ok m → P m.after.setup

module _ (P : Setup → Type 0) where
  keeps_refused : (e : Refused) → Keeps P (Err e)
  keeps_refused e = record { kept = λ m is. absurd (err≢ok e m is) }

  pub keeps_ok : (k : Made Program) → P k.after.setup → Keeps P (Ok k)
  keeps_ok k o = record { kept = λ m e. subst (λ (i : Made Program). P i.after.setup) (ok_injective k m e) o }

  keeps_bind : {A : Type 0} (x : Out A) (f : A → Out (Made Program)) → ((a : A) → Keeps P (f a)) → Keeps P (◌>>=◌ x f)
  keeps_bind (Err e) f h = keeps_refused e
  keeps_bind (Ok a) f h = h a

  keeps_map : {A : Type 0} (f : A → Program) (x : Out (Made A)) → ((a : A) → P (f a).setup) → Keeps P (map_after f x)
  keeps_map f (Err e) h = keeps_refused e
  keeps_map f (Ok m) h = keeps_ok _ (h m.after)

  pub keeps_then :
      (x : Out (Made Program)) (f : Program → Out (Made Program)) → Keeps P x → ((p : Program) → P p.setup → Keeps P (f p))
      → Keeps P (and_then x f)
  keeps_then x f k h =
      record {
        kept = λ m e.
            let t = then_accepted x f m e in
            subst (λ (p : Program). P p.setup) (sym t.after_is)
            ((h t.first.after (k.kept t.first t.first_is)).kept t.second t.second_is);
      }

  module _
      (machine-keeps : (s : Setup) (m : Machine) → P s → P (with_machine s m))
      (origin-keeps : (s : Setup) (sheet : Option Layout) (offset : Point) → P s → P (with_origin s sheet offset)) where
    started_keeps : (p : Program) (q : Point) (line : ℕ) (n : Option Machine) → P p.setup → Keeps P (started p q line n)
    started_keeps p q line None o = keeps_refused (record { refusal = NoMachine; line = line })
    started_keeps p q line (Some m) o = keeps_ok _ (machine-keeps p.setup m o)

    origin-settled : (j : Judging) (line : ℕ) (sheet : Option Layout) (offset : Point) (p : Program) → P p.setup → Keeps P (settled p (set_origin j line sheet offset p.setup))
    unfolding set_origin
    origin-settled j line sheet offset p o = go (judged j.bounds (near (reference_of sheet ⊕ offset)))
      where
        go : (t : Bool) → Keeps P (settled p (◌>>=◌ (need t TooFar line) (λ _. Ok (with_origin p.setup sheet offset))))
        go true = keeps_ok _ (origin-keeps p.setup sheet offset o)
        go false = keeps_refused (record { refusal = TooFar; line = line })

    module _ (j : Judging) (text : List ℕ) (next line : ℕ) (ls : List (List ℕ)) (p : Program) (o : P p.setup) where
      carry_outside_keeps : (b : Outside) → Keeps P (carry_outside j text next line ls b p)
      unfolding carry_outside
      carry_outside_keeps (Outside.Machine q) = started_keeps p q line (named q) o
      carry_outside_keeps Outside.End = keeps_ok _ o
      carry_outside_keeps (Outside.Offset a) = origin-settled j line p.setup.sheet (offset_by a p.setup.offset) p o
      carry_outside_keeps (Outside.Layout l) = origin-settled j line (Some l) p.setup.offset p o
      carry_outside_keeps (Outside.Open n) = keeps_map (with_store p) (open_body j text n next line ls p.setup (with_stored p.macros p.progress)) (λ st. o)
      carry_outside_keeps (Outside.Close n) = keeps_refused (record { refusal = NotClosed; line = line })
      carry_outside_keeps (Outside.Copy c) = keeps_map (with_progress p) (copy_part j (bodies_of text p.macros) p.setup line c p.progress) (λ g. o)

      -- as in a body
      abbrev in_body : Block → Out (Made Progress)
      in_body b = carry j (call j (bodies_of text p.macros) most_calls) (ordinary_frame p.setup) line b p.progress

      carry_out_keeps : (b : Block) → Keeps P (carry_out j text next line ls b p)
      unfolding carry_out
      carry_out_keeps (Block.Direct d) = keeps_map (with_progress p) (in_body (Block.Direct d)) (λ g. o)
      carry_out_keeps (Block.Call n) = keeps_map (with_progress p) (in_body (Block.Call n)) (λ g. o)
      carry_out_keeps (Block.Outside b) = carry_outside_keeps b

    -- ---- Lines

    pass_over_keeps : (l : List ℕ) (p : Program) → P p.setup → Keeps P (pass_over l p)
    pass_over_keeps l p o = go (starts_with letter_v l)
      where
        go : (t : Bool) → Keeps P (elim t as (λ _. Out (Made Program)) [ true ↦ no_entry (at_stage Running p) | false ↦ no_entry p ])
        go true = keeps_ok _ o
        go false = keeps_ok _ o

    run_block_outside_keeps :
        (j : Judging) (text : List ℕ) (next line : ℕ) (l : List ℕ) (ls : List (List ℕ)) (p : Program) → P p.setup
        → Keeps P (run_block_outside j text next line l ls p)
    unfolding run_block_outside
    run_block_outside_keeps j text next line l ls p o =
        keeps_bind (begin j (ordinary_frame p.setup) line l p.progress) _ λ b.
        keeps_bind (need (in_place p.stage b.block) OutOfPlace line) _ λ _.
        carry_out_keeps j text next line ls (with_progress p b.progress) o b.block

    pub run_line_outside_keeps :
        (j : Judging) (text : List ℕ) (next line : ℕ) (l : List ℕ) (ls : List (List ℕ)) (p : Program) → P p.setup
        → Keeps P (run_line_outside j text next line l ls p)
    run_line_outside_keeps j text next line [] ls p o = keeps_ok _ o
    run_line_outside_keeps j text next line (b ∷ bs) ls p o = go (is_storing p.stage)
      where
        go :
            (t : Bool)
            → Keeps P (elim t as (λ _. Out (Made Program)) [ true ↦ pass_over (b ∷ bs) p | false ↦ run_block_outside j text next line (b ∷ bs) ls p ])
        go true = pass_over_keeps (b ∷ bs) p o
        go false = run_block_outside_keeps j text next line (b ∷ bs) ls p o
