-- Laws of a block that runs stored bodies or stores one, as the block that is carried out: what it leaves of the progress or the
-- store, as what it leaves of the program.
use Rattle.std.specs.Prelude.{Ok, Err, IfOk}
use mathlib.Core.Path.{◌≡◌, refl}
use mathlib.Core.List.{List}
use Prim.Native.Nat.{ℕ, ◌+◌}
use lib.ListN.{drop}
use Rattle.aries.specs.declared.block.Block.TheVariants as Block
use Rattle.aries.specs.declared.block.Outside.TheVariants as Outside
use Rattle.aries.specs.declared.job.Job.{Job}
use Rattle.aries.specs.declared.location.Location.{Location}
use Rattle.aries.specs.declared.setup.Program.{Program}
use Rattle.aries.specs.declared.state.Progress.{Progress}
use Rattle.aries.specs.Bodies.{Store, open_body}
use Rattle.aries.specs.Outcome.{Out}
use Rattle.aries.specs.Entries.{Made, map_after}
use Rattle.aries.specs.Judging.{Judging, limits}
use Rattle.aries.specs.Layouts.{copy_part}
use Rattle.aries.specs.Macros.{bodies_of, most_calls, call, carry, carry_call}
use Rattle.aries.specs.Program.{with_progress, with_store, carry_out, carry_outside}
use Rattle.aries.specs.Runs.{Lent, leaving, entries_made, entries_of_program, Ran}
use Rattle.aries.specs.Setup.{ordinary_frame}
use Rattle.aries.specs.Steady.{GivenNear}
use Rattle.aries.specs.Text.{lines}
use Rattle.aries.proofs.Given.{LeavesNear, carry_call-near, call-near, copy_part-near, left_near}
use Rattle.aries.proofs.Runs.{ran-map}
use Rattle.decode.proofs.NearCalls.{calls_near}
use Rattle.storing.specs.Opening.{Opens}
use Rattle.turns.specs.declared.turn.Called.{Called}
use Rattle.turns.specs.declared.turn.Called.TheVariants.{Macro, Part}
use Rattle.turns.specs.Turns.{block_of, CalledNear, Near}
use Rattle.program.specs.Lines.{Keeps, Carries}

-- what is left, seen as part of something larger
ran-leaving :
    {A B C : Type 0} {count_b : B → ℕ} {count_c : C → ℕ} {job : Job} {before after : Lent} {k : ℕ} (f : B → C)
    → ((b : B) → count_c (f b) ≡ count_b b) → (r : Out A) (left : B) (out : Out (Made B))
    → Ran count_b job (leaving r left) before after k out → Ran count_c job (leaving r (f left)) before after k (map_after f out)
ran-leaving f same (Ok a) left out ran = ran-map f same out ran
ran-leaving f same (Err e) left out ran = ran-map f same out ran

module _ (t : List ℕ) (end : Location) (p : Program) where
  -- ---- Stored bodies are run

  -- what it comes to, for the progress
  abbrev pub run_called : Called → Judging → Progress → Out (Made Progress)
  run_called (Macro c) j g = carry_call (call j (bodies_of t p.macros) most_calls) (ordinary_frame p.setup) end.line c g
  run_called (Part c) j g = copy_part j (bodies_of t p.macros) p.setup end.line c g

  -- it leaves the letters given no longer than words are
  called-leaves : (c : Called) → CalledNear c → (j : Judging) (g : Progress) → GivenNear g.state → LeavesNear (run_called c j g)
  called-leaves (Macro c) n j g h =
      carry_call-near (call j (bodies_of t p.macros) most_calls) (call-near calls_near j (bodies_of t p.macros) most_calls) (ordinary_frame p.setup) end.line c n g h
  called-leaves (Part c) n j g h = copy_part-near calls_near j (bodies_of t p.macros) p.setup end.line c g h

  pub carries_called :
      {A : Type 0} {before after : Lent} (c : Called) → CalledNear c → Near p → (r : Out A) (left : Progress)
      → Ran entries_made p.setup.job (leaving r left) before after p.progress.entries (run_called c (limits p.setup.job) p.progress)
      → Carries (leaving r (with_progress p left)) t end (block_of c) p before after
  unfolding carry_out carry carry_outside
  carries_called {A} {before} {after} c called near r left ran = record { runs = runs c ran; keeps = keeps r ran }
    where
      out : Out (Made Progress)
      out = run_called c (limits p.setup.job) p.progress

      runs :
          (c : Called) → Ran entries_made p.setup.job (leaving r left) before after p.progress.entries (run_called c (limits p.setup.job) p.progress)
          → Ran entries_of_program p.setup.job (leaving r (with_progress p left)) before after p.progress.entries
          (carry_out (limits p.setup.job) t (end.offset + 1) end.line (lines (drop (end.offset + 1) t)) (block_of c) p)
      runs (Macro c) ran = ran-leaving (with_progress p) (λ g. refl) r left _ ran
      runs (Part c) ran = ran-leaving (with_progress p) (λ g. refl) r left _ ran

      keeps : (r : Out A) → Ran entries_made p.setup.job (leaving r left) before after p.progress.entries out → IfOk (leaving r (with_progress p left)) (Keeps p)
      keeps (Ok a) ran = record { setup = refl; given = left_near out ran (called-leaves c called (limits p.setup.job) p.progress near.1) }
      keeps (Err e) ran = tt

  -- ---- A U line

  pub carries_opened :
      {A : Type 0} {before after : Lent} (n : ℕ) (r : Out A) (left : Store)
      → Opens (leaving r left) p.setup.job before after (record { macros = p.macros; progress = p.progress })
      (λ j. open_body j t n (end.offset + 1) end.line (lines (drop (end.offset + 1) t)) p.setup)
      → IfOk r (λ a. GivenNear left.progress.state)
      → Carries (leaving r (with_store p left)) t end (Block.Outside (Outside.Open n)) p before after
  unfolding carry_out carry_outside
  carries_opened {A} n r left ran given = record { runs = ran-leaving (with_store p) (λ g. refl) r left _ ran; keeps = keeps r given }
    where
      keeps : (r : Out A) → IfOk r (λ a. GivenNear left.progress.state) → IfOk (leaving r (with_store p left)) (Keeps p)
      keeps (Ok a) h = record { setup = refl; given = h }
      keeps (Err e) h = tt
