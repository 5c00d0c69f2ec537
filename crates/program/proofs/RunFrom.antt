-- Laws of the lines of a text from a place on: blank lines, the end of a line, a line that is passed over, and a block.
use Rattle.std.specs.Prelude.{Ok, Err}
use mathlib.Core.Path.{◌≡◌, refl, sym, ap, ap₂, fun_ext, ◌∙◌}
use mathlib.Core.Bool.{Bool, true, false, cond}
use mathlib.Core.List.{List, [], ◌∷◌, ◌++◌}
use Prim.Native.Nat.{ℕ, zero, suc, ◌+◌, ◌<◌, ◌≤◌}
use native.Mathlib.Omega.{arith}
use borrow.Author.Tests.{ltb-true, ltb-false}
use lib.Dec.{eqb, ltb}
use lib.ListN.{length, get_or, drop, replicate, length-take, length-drop}
use lib.Seq.{drop-drop, get_or-drop}
use Rattle.aries.specs.declared.location.Location.{Location}
use Rattle.aries.specs.declared.setup.Program.{Program}
use Rattle.aries.specs.declared.setup.Stage.TheVariants.{Running, Storing}
use Rattle.aries.specs.Outcome.{Out, ◌>>=◌}
use Rattle.aries.specs.Letters.{letter_v}
use Rattle.aries.specs.Text.{line_feed, lines, starts_with}
use Rattle.aries.specs.Entries.{Made, no_entry, and_then}
use Rattle.aries.specs.Judging.{Judging}
use Rattle.aries.specs.Macros.{Begun, begin}
use Rattle.aries.specs.Setup.{ordinary_frame}
use Rattle.aries.specs.Program.{with_progress, at_stage, is_storing, pass_over, run_block_outside, run_line_outside, run_from}
use Rattle.aries.proofs.Runs.{no_entry_then}
use Rattle.text.specs.Lines.{line_length, line_at, line_end, blanks}
use Rattle.text.proofs.Lines.{line-short, line-goes_on, feed_after, lines_at, lines-past, lines-blanks, blanks_go_on, first_byte}
use Rattle.stretches.specs.Lookahead.{past_blanks}
use Rattle.stretches.specs.Stretches.{behind, begin_at}
use Rattle.stretches.proofs.Stretches.{line_end_at}
use Rattle.turns.specs.Turns.{placed, lines_from}

abbrev located : ℕ → ℕ → Location
located offset line = record { offset = offset; line = line }

module _ (j : Judging) (t : List ℕ) where
  -- nothing is left
  pub text_end : (at : Location) (p : Program) → length t ≤ at.offset → lines_from j t at p ≡ no_entry p
  unfolding run_from
  text_end at p h = rw (lines-past t at.offset h)

  -- ---- Blank lines

  -- they count, and do nothing
  blank_lines : (n at line : ℕ) (ls : List (List ℕ)) (p : Program) → run_from j t at line (replicate n [] ++ ls) p ≡ run_from j t (at + n) (line + n) ls p
  unfolding run_from
  blank_lines zero at line ls p =
      let a : at ≡ at + 0 = omega arith in
      let e : line ≡ line + 0 = omega arith in
      ap₂ (λ (a b : ℕ). run_from j t a b ls p) a e
  blank_lines (suc n) at line ls p =
      let a : at + 0 + 1 + n ≡ at + suc n = omega arith in
      let e : suc line + n ≡ line + suc n = omega arith in
      no_entry_then p (run_from j t (at + 0 + 1) (suc line) (replicate n [] ++ ls))
      ∙ blank_lines n (at + 0 + 1) (suc line) ls p
      ∙ ap₂ (λ (a b : ℕ). run_from j t a b ls p) a e

  -- from a place between lines on to the next block
  pub skip : (from : Location) (p : Program) → lines_from j t from p ≡ lines_from j t (past_blanks t from) p
  skip from p =
      let b : ℕ = blanks (drop from.offset t) in
      ap (λ (ls : List (List ℕ)). run_from j t from.offset from.line ls p)
      (lines-blanks (drop from.offset t) ∙ ap (λ (d : List ℕ). replicate b [] ++ lines d) (drop-drop b from.offset t))
      ∙ blank_lines b from.offset from.line (lines (drop (from.offset + b) t)) p

  -- the end of a line is a place between lines
  pub from_end : (end : Location) (p : Program) → (end.offset < length t → get_or t end.offset 0 ≡ line_feed) → lines_from j t (behind end) p ≡ lines_from j t end p
  from_end end p feed = go (ltb end.offset (length t)) refl
    where
      go : (b : Bool) → ltb end.offset (length t) ≡ b → lines_from j t (behind end) p ≡ lines_from j t end p
      go false e =
          let h : length t ≤ end.offset = ltb-false end.offset (length t) e in
          text_end (behind end) p (omega arith) ∙ sym (text_end end p h)
      go true e =
          let h : end.offset < length t = ltb-true end.offset (length t) e in
          let b = blanks_go_on t end.offset h (feed h) in
          let x : end.offset + 1 + blanks (drop (end.offset + 1) t) ≡ end.offset + blanks (drop end.offset t) = omega (arith, b) in
          let y : suc end.line + blanks (drop (end.offset + 1) t) ≡ end.line + blanks (drop end.offset t) = omega (arith, b) in
          skip (behind end) p ∙ ap₂ (λ (a b : ℕ). lines_from j t (located a b) p) x y ∙ sym (skip end p)

  -- ---- The line at a place

  module _ (at : Location) (p : Program) (h : at.offset < length t) where
    -- a line feed stands where it ends, if the text does not
    feed_at_end : line_end t at.offset < length t → get_or t (line_end t at.offset) 0 ≡ line_feed
    feed_at_end i =
        let k : line_length (drop at.offset t) < length (drop at.offset t) = simp length-drop (omega arith) in
        sym (get_or-drop at.offset t (line_length (drop at.offset t)) 0) ∙ feed_after (drop at.offset t) k

    line-size : length (line_at t at.offset) ≡ line_length (drop at.offset t)
    line-size = let s = line-short (drop at.offset t) in simp length-take (omega arith)

    -- what it is carried out as
    abbrev line_here : Out (Made Program)
    line_here = run_line_outside j t (line_end t at.offset + 1) at.line (line_at t at.offset) (lines (drop (line_end t at.offset + 1) t)) p

    -- it comes first, and then the lines behind it
    line_then : lines_from j t at p ≡ and_then line_here (lines_from j t (behind (line_end_at t at)))
    unfolding run_from
    line_then = ap (λ (ls : List (List ℕ)). run_from j t at.offset at.line ls p) (lines_at t at.offset h) ∙ rw line-size

    -- a block: it begins, is judged by its place and carried out
    pub block-begun :
        (get_or t at.offset 0 ≡ line_feed → ⊥) → is_storing p.stage ≡ false
        → lines_from j t at p
        ≡ and_then
        (do
          b ← begin j (ordinary_frame p.setup) at.line (line_at t at.offset) p.progress
          placed j t (line_end_at t at) b.block (with_progress p b.progress))
        (lines_from j t (line_end_at t at))
    unfolding run_block_outside placed
    block-begun f e =
        let some : 0 < length (line_at t at.offset) = omega (arith, line-size, line-goes_on t at.offset h f) in
        line_then
        ∙ ap (λ (o : Out (Made Program)). and_then o (lines_from j t (behind (line_end_at t at)))) (go (line_at t at.offset) some)
        ∙ ap (and_then (run_block_outside j t (line_end t at.offset + 1) at.line (line_at t at.offset) (lines (drop (line_end t at.offset + 1) t)) p)) (fun_ext (λ q. from_end (line_end_at t at) q feed_at_end))
      where
        go :
            (l : List ℕ) → 0 < length l
            → run_line_outside j t (line_end t at.offset + 1) at.line l (lines (drop (line_end t at.offset + 1) t)) p
            ≡ run_block_outside j t (line_end t at.offset + 1) at.line l (lines (drop (line_end t at.offset + 1) t)) p
        go [] i = absurd (omega arith)
        go (b ∷ bs) i = cc

  -- what a block that has begun leaves, and then the lines behind it
  abbrev pub begun_then : Program → Out (Begun × Location) → Out (Made Program)
  begun_then p (Err e) = Err e
  begun_then p (Ok (b, end)) = and_then (placed j t end b.block (with_progress p b.progress)) (lines_from j t end)

  -- the same, as it begins at a place of the text
  pub lines_begun :
      (at : Location) (p : Program) → at.offset < length t → (get_or t at.offset 0 ≡ line_feed → ⊥) → is_storing p.stage ≡ false
      → lines_from j t at p ≡ begun_then p (begin_at j (ordinary_frame p.setup) t at p.progress)
  lines_begun at p h f e = block-begun at p h f e ∙ go (begin j (ordinary_frame p.setup) at.line (line_at t at.offset) p.progress)
    where
      end : Location
      end = line_end_at t at

      go :
          (o : Out Begun)
          → and_then (◌>>=◌ o (λ b. placed j t end b.block (with_progress p b.progress))) (lines_from j t end) ≡ begun_then p (◌>>=◌ o (λ b. Ok (b, end)))
      go (Ok b) = refl
      go (Err e) = refl

  -- ---- Between a U line and its V line

  module _ (at : Location) (p : Program) (storing : p.stage ≡ Storing) (h : at.offset < length t) where
    line-passed : lines_from j t at p ≡ and_then (pass_over (line_at t at.offset) p) (lines_from j t (behind (line_end_at t at)))
    line-passed =
        line_then at p h
        ∙ ap (λ (o : Out (Made Program)). and_then o (lines_from j t (behind (line_end_at t at)))) (go (line_at t at.offset))
      where
        go :
            (l : List ℕ)
            → run_line_outside j t (line_end t at.offset + 1) at.line l (lines (drop (line_end t at.offset + 1) t)) p ≡ pass_over l p
        go [] = refl
        go (b ∷ bs) = rw storing refl

    -- by its first byte
    pub passed : (v : Bool) → eqb (get_or t at.offset 0) letter_v ≡ v → lines_from j t (behind (line_end_at t at)) (cond v (at_stage Running p) p) ≡ lines_from j t at p
    passed v e =
        let w : starts_with letter_v (line_at t at.offset) ≡ v = first_byte (λ b. eqb b letter_v) refl refl t at.offset h ∙ e in
        rw line-passed (sym (go v w))
      where
        rest : Program → Out (Made Program)
        rest = lines_from j t (behind (line_end_at t at))

        go : (v : Bool) → starts_with letter_v (line_at t at.offset) ≡ v → and_then (pass_over (line_at t at.offset) p) rest ≡ rest (cond v (at_stage Running p) p)
        go true w = let o : pass_over (line_at t at.offset) p ≡ no_entry (at_stage Running p) = cc in rw o (no_entry_then (at_stage Running p) rest)
        go false w = let o : pass_over (line_at t at.offset) p ≡ no_entry p = cc in rw o (no_entry_then p rest)
