-- Laws of `stretch`: from line to line and from block to block of a text.
use Rattle.std.specs.Prelude.{Ok, Err}
use mathlib.Core.Path.{◌≡◌, refl, sym, ap, ap₂, ◌∙◌, fun_ext}
use mathlib.Core.Bool.{Bool, true, false}
use mathlib.Core.List.{List, [], ◌∷◌, ◌++◌}
use Prim.Native.Nat.{ℕ, zero, suc, ◌+◌, ◌<◌, ◌≤◌}
use native.Mathlib.Omega.{arith}
use borrow.Author.Tests.{ltb-true, ltb-false}
use lib.Dec.{ltb}
use lib.ListN.{length, get_or, drop, replicate, length-drop}
use lib.Seq.{length-take-le, drop-drop, get_or-drop}
use Rattle.aries.specs.declared.location.Location.{Location}
use Rattle.aries.specs.declared.state.Frame.{Frame}
use Rattle.aries.specs.declared.state.Progress.{Progress}
use Rattle.aries.specs.Outcome.{Out, ◌>>=◌}
use Rattle.aries.specs.Entries.{Made, no_entry, and_then}
use Rattle.aries.specs.Judging.{Judging}
use Rattle.aries.specs.Macros.{Begun, begin}
use Rattle.aries.specs.Text.{lines, line_feed}
use Rattle.aries.proofs.Runs.{no_entry_then}
use Rattle.text.specs.Lines.{line_length, blanks, line_at, line_end}
use Rattle.text.proofs.Lines.{line-short, line-goes_on, line-ends, feed_after, lines_at, lines-past, lines-blanks}
use Rattle.stretches.specs.Stretches.{begin_at, Stretch, going, block_step, line_step, onward, end_of, behind, stretch}
use Rattle.stretches.specs.Lookahead.{past_blanks}

-- the place of a line's end
abbrev pub line_end_at : List ℕ → Location → Location
line_end_at t at = record { offset = line_end t at.offset; line = at.line }

abbrev located : ℕ → ℕ → Location
located offset line = record { offset = offset; line = line }

module _ (j : Judging) (f : Frame) where
  -- blank lines count, and do nothing
  blank_lines :
      (n : ℕ) (at : Location) (ls : List (List ℕ)) (g : Progress)
      → stretch j f at (replicate n [] ++ ls) g ≡ stretch j f (located (at.offset + n) (at.line + n)) ls g
  unfolding stretch
  blank_lines zero at ls g =
      let a : at.offset ≡ at.offset + 0 = omega arith in
      let b : at.line ≡ at.line + 0 = omega arith in
      ap₂ (λ (a b : ℕ). stretch j f (located a b) ls g) a b
  blank_lines (suc n) at ls g =
      let a : at.offset + 0 + 1 + n ≡ at.offset + suc n = omega arith in
      let b : suc at.line + n ≡ at.line + suc n = omega arith in
      no_entry_then (going g) (onward (stretch j f (behind (end_of at 0)) (replicate n [] ++ ls)))
      ∙ blank_lines n (behind (end_of at 0)) ls g
      ∙ ap₂ (λ (a b : ℕ). stretch j f (located a b) ls g) a b

  -- from a place between lines on to the next block
  pub stretch_skip :
      (t : List ℕ) (at : Location) (g : Progress)
      → stretch j f at (lines (drop at.offset t)) g ≡ stretch j f (past_blanks t at) (lines (drop (past_blanks t at).offset t)) g
  stretch_skip t at g =
      let n = blanks (drop at.offset t) in
      ap (λ (ls : List (List ℕ)). stretch j f at ls g)
      (lines-blanks (drop at.offset t) ∙ ap (λ (d : List ℕ). replicate n [] ++ lines d) (drop-drop n at.offset t))
      ∙ blank_lines n at (lines (drop (past_blanks t at).offset t)) g

  -- the end of a line is a place between lines: what is left of the line there is blank
  pub stretch-past :
      (t : List ℕ) (end : Location) (g : Progress) → (end.offset < length t → get_or t end.offset 0 ≡ line_feed)
      → stretch j f (behind end) (lines (drop (behind end).offset t)) g ≡ stretch j f end (lines (drop end.offset t)) g
  unfolding stretch
  stretch-past t end g feed = go (ltb end.offset (length t)) refl
    where
      go :
          (b : Bool) → ltb end.offset (length t) ≡ b
          → stretch j f (behind end) (lines (drop (behind end).offset t)) g ≡ stretch j f end (lines (drop end.offset t)) g
      go true e =
          let i : end.offset < length t = ltb-true end.offset (length t) e in
          let z : line_length (drop end.offset t) ≡ 0 = line-ends t end.offset i (feed i) in
          let a : end.offset + 0 + 1 ≡ end.offset + 1 = omega arith in
          sym
          (ap (λ (ls : List (List ℕ)). stretch j f end ls g) (lines_at t end.offset i)
          ∙ rw z (rw a (no_entry_then (going g) (onward (stretch j f (behind end) (lines (drop (behind end).offset t)))))))
      go false e =
          let i : length t ≤ end.offset = ltb-false end.offset (length t) e in
          rw (lines-past t (end.offset + 1) (omega arith), lines-past t end.offset i) refl

  -- a line with a block in it
  line_step_lem :
      (end : Location) (l : List ℕ) (g : Progress) → 0 < length l
      → line_step j f end l g ≡ ◌>>=◌ (begin j f end.line l g) (λ x. block_step j f end x.block x.progress)
  line_step_lem end [] g h = absurd (omega arith)
  line_step_lem end (b ∷ bs) g h = refl

  -- a block that has begun, and what follows from the end of its line on
  abbrev pub block_and_on : List ℕ → Out (Begun × Location) → Out (Made Stretch)
  block_and_on t (Err e) = Err e
  block_and_on t (Ok (b, end)) = and_then (block_step j f end b.block b.progress) (onward (stretch j f end (lines (drop end.offset t))))

  pub stretch-block :
      (t : List ℕ) (at : Location) (g : Progress) → at.offset < length t → (get_or t at.offset 0 ≡ line_feed → ⊥)
      → stretch j f at (lines (drop at.offset t)) g ≡ block_and_on t (begin_at j f t at g)
  unfolding stretch
  stretch-block t at g h n =
      ap (λ (ls : List (List ℕ)). stretch j f at ls g) (lines_at t at.offset h)
      ∙ rw size
      (ap₂ (λ (x : Out (Made Stretch)) (rest : Progress → Out (Made Stretch)). and_then x (onward rest)) (line_step_lem end (line_at t at.offset) g some_bytes) (fun_ext (λ r. stretch-past t end r feed)))
      ∙ with_end (begin j f at.line (line_at t at.offset) g)
    where
      end : Location
      end = line_end_at t at

      size : length (line_at t at.offset) ≡ line_length (drop at.offset t)
      size = length-take-le (line_length (drop at.offset t)) (drop at.offset t) (line-short (drop at.offset t))

      some_bytes : 0 < length (line_at t at.offset)
      some_bytes = omega (arith, size, line-goes_on t at.offset h n)

      feed : end.offset < length t → get_or t end.offset 0 ≡ line_feed
      feed i = sym (get_or-drop at.offset t (line_length (drop at.offset t)) 0) ∙ feed_after (drop at.offset t) (simp length-drop (omega arith))

      with_end :
          (x : Out Begun)
          → and_then (◌>>=◌ x (λ b. block_step j f end b.block b.progress)) (onward (stretch j f end (lines (drop end.offset t))))
          ≡ block_and_on t (◌>>=◌ x (λ (b : Begun). Ok (b, end)))
      with_end (Ok b) = refl
      with_end (Err e) = refl

  -- no line is left
  pub stretch_end : (t : List ℕ) (at : Location) (g : Progress) → length t ≤ at.offset → stretch j f at (lines (drop at.offset t)) g ≡ no_entry (going g)
  unfolding stretch
  stretch_end t at g h = rw (lines-past t at.offset h) refl
