-- The lines of a body, stretch by stretch: what direct blocks one after another make, and then what follows the block that
-- they end at.
use Rattle.std.specs.Prelude.{Err, None, Ok, Option, Some}
use mathlib.Core.Path.{◌≡◌, refl, sym, ap, ◌∙◌, fun_ext}
use mathlib.Core.Bool.{Bool, true, false}
use mathlib.Core.List.{List, [], ◌∷◌}
use Prim.Native.Nat.{ℕ, suc, ◌+◌, ◌<◌, ◌≤◌}
use native.Mathlib.Omega.{arith}
use borrow.Author.Tests.{ltb-true, ltb-false}
use lib.Dec.{ltb}
use lib.ListN.{length, get_or, drop}
use Rattle.aries.specs.declared.block.Block.{Block}
use Rattle.aries.specs.declared.location.Location.{Location}
use Rattle.aries.specs.declared.refusal.Refusal.TheVariants.{OutOfPlace}
use Rattle.aries.specs.declared.state.Frame.{Frame}
use Rattle.aries.specs.declared.state.Progress.{Progress}
use Rattle.aries.specs.Outcome.{Out, refused, ◌>>=◌}
use Rattle.aries.specs.Entries.{Made, no_entry, adding, and_then, map_after}
use Rattle.aries.specs.Judging.{Judging}
use Rattle.aries.specs.Macros.{Calls, carry_direct, carry_call, carry, Begun, begin, run_block, run_line, run_lines}
use Rattle.aries.specs.Text.{lines, line_feed}
use Rattle.aries.proofs.Runs.{no_entry_then}
use Rattle.text.specs.Lines.{line_length}
use Rattle.text.proofs.Lines.{line-ends, lines_at, lines-past}
use Rattle.stretches.specs.declared.Sequel.{Sequel}
use Rattle.stretches.specs.Stretches.{Stretch, going, block_step, line_step, onward, end_of, behind, stretch}
use Rattle.stretches.proofs.Sequels.{first-line}
use Rattle.bodies.proofs.Thence.{thence, adding_thence}

-- what follows a stretch: nothing at the end; a call, and then the lines behind it; any other block is out of place
abbrev following : Judging → Calls → Frame → List ℕ → Option Sequel → Progress → Out (Made Progress)
following j c f t None g = no_entry g
following j c f t (Some (Sequel.Call x end)) g = and_then (carry_call c f end.line x g) (run_lines j c f end.line (lines (drop end.offset t)))
following j c f t (Some (Sequel.Outside o end)) g = refused OutOfPlace end.line

module _ (j : Judging) (c : Calls) (f : Frame) where
  -- ---- From line to line

  -- the end of a line is a place between lines: what is left of the line there is blank
  past-line :
      (t : List ℕ) (end : Location) (g : Progress) → (end.offset < length t → get_or t end.offset 0 ≡ line_feed)
      → run_lines j c f (suc end.line) (lines (drop (end.offset + 1) t)) g ≡ run_lines j c f end.line (lines (drop end.offset t)) g
  unfolding run_lines
  past-line t end g feed = go (ltb end.offset (length t)) refl
    where
      go :
          (b : Bool) → ltb end.offset (length t) ≡ b
          → run_lines j c f (suc end.line) (lines (drop (end.offset + 1) t)) g ≡ run_lines j c f end.line (lines (drop end.offset t)) g
      go true e =
          let i : end.offset < length t = ltb-true end.offset (length t) e in
          let z : line_length (drop end.offset t) ≡ 0 = line-ends t end.offset i (feed i) in
          let a : end.offset + 0 + 1 ≡ end.offset + 1 = omega arith in
          sym
          (ap (λ (ls : List (List ℕ)). run_lines j c f end.line ls g) (lines_at t end.offset i)
          ∙ rw z (rw a (no_entry_then g (run_lines j c f (suc end.line) (lines (drop (end.offset + 1) t))))))
      go false e =
          let i : length t ≤ end.offset = ltb-false end.offset (length t) e in
          rw (lines-past t (end.offset + 1) (omega arith), lines-past t end.offset i) refl

  -- ---- Stretch by stretch

  module _ (t : List ℕ) where
    -- what a stretch leads to
    abbrev pub followed : Stretch → Out (Made Progress)
    followed s = following j c f t s.sequel s.progress

    -- a line, and what follows it
    line-all :
        (from : Location) (l : List ℕ) (g : Progress) (next : Progress → Out (Made Progress)) (later : Progress → Out (Made Stretch))
        → ((g : Progress) → next g ≡ thence (later g) followed)
        → ((g : Progress) → next g ≡ run_lines j c f from.line (lines (drop (from.offset + length l) t)) g)
        → and_then (run_line j c f from.line l g) next ≡ thence (and_then (line_step j f (end_of from (length l)) l g) (onward later)) followed
    unfolding run_block carry
    line-all from [] g next later same past = ap (adding []) (same g) ∙ adding_thence [] (later g) followed
    line-all from (b ∷ bs) g next later same past = begins (begin j f from.line (b ∷ bs) g)
      where
        end : Location
        end = end_of from (length (b ∷ bs))

        carried : (out : Out (Made Progress)) → and_then out next ≡ thence (and_then (map_after going out) (onward later)) followed
        carried (Ok m) = ap (adding m.entries) (same m.after) ∙ adding_thence m.entries (later m.after) followed
        carried (Err e) = refl

        blocks : (d : Block) (g : Progress) → and_then (carry j c f from.line d g) next ≡ thence (and_then (block_step j f end d g) (onward later)) followed
        blocks (Block.Direct d) g = carried (carry_direct j f from.line d g)
        blocks (Block.Call x) g = ap (and_then (carry_call c f from.line x g)) (fun_ext past) ∙ sym (no_entry_then g (following j c f t (Some (Sequel.Call x end))))
        blocks (Block.Outside o) g = refl

        begins :
            (out : Out Begun)
            → and_then (◌>>=◌ out (λ x. carry j c f from.line x.block x.progress)) next
            ≡ thence (and_then (◌>>=◌ out (λ x. block_step j f end x.block x.progress)) (onward later)) followed
        begins (Err e) = refl
        begins (Ok x) = blocks x.block x.progress

    lines-all :
        (ls : List (List ℕ)) (from : Location) (g : Progress) → lines (drop from.offset t) ≡ ls
        → run_lines j c f from.line ls g ≡ thence (stretch j f from ls g) followed
    unfolding run_lines stretch
    lines-all [] from g e = refl
    lines-all (l ∷ ls) from g e =
        let w = first-line t from.offset l ls e in
        let end = end_of from (length l) in
        line-all from l g (run_lines j c f (suc from.line) ls) (stretch j f (behind end) ls)
        (λ h. lines-all ls (behind end) h w.1)
        (λ h. ap (λ (k : List (List ℕ)). run_lines j c f (suc from.line) k h) (sym w.1) ∙ past-line t end h w.2)

    -- from a place on
    pub lines_stretched :
        (from : Location) (g : Progress)
        → run_lines j c f from.line (lines (drop from.offset t)) g ≡ thence (stretch j f from (lines (drop from.offset t)) g) followed
    lines_stretched from g = lines-all (lines (drop from.offset t)) from g refl
