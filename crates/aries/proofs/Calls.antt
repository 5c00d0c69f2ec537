-- Laws of macros: how a block begins, the bodies that are stored, the part of a text that is one, and calls.
use Rattle.std.specs.Prelude.{Err, None, Ok, Some}
use mathlib.Core.Path.{◌≡◌, refl, sym, ap, ◌∙◌}
use mathlib.Core.Bool.{Bool, true, false, cond}
use mathlib.Core.List.{List}
use Prim.Native.Nat.{ℕ, zero, suc, ◌-◌, ◌<◌, ◌≤◌}
use native.Mathlib.Omega.{arith}
use borrow.Author.Tests.{ltb-true, ltb-false}
use lib.Dec.{ltb}
use lib.ListN.{length, take, drop, length-drop}
use lib.Seq.{take_all}
use Rattle.aries.specs.declared.refusal.Refusal.TheVariants.{BlocksSpent, NotStored, TooDeep}
use Rattle.aries.specs.declared.block.Instruction.{Instruction}
use Rattle.aries.specs.declared.refusal.Refusal.{Refusal}
use Rattle.aries.specs.declared.macros.Macros.{Macros}
use Rattle.aries.specs.declared.macros.StoredBody.{StoredBody}
use Rattle.aries.specs.declared.state.Frame.{Frame}
use Rattle.aries.specs.declared.state.Progress.{Progress}
use Rattle.aries.specs.Outcome.{refused}
use Rattle.aries.specs.Judging.{Judging}
use Rattle.aries.specs.Reader.{reader_of}
use Rattle.aries.specs.Blocks.{decode}
use Rattle.aries.specs.Macros.{Body, part, Bodies, body_at, bodies_of, found_in, may_come, begun_by, begin, call, run_body}

-- ---- What is stored

module _ (text : List ℕ) (m : Macros) (n : ℕ) where
  pub body_missing : found_in m n ≡ None → bodies_of text m n ≡ None
  unfolding bodies_of
  body_missing e = ap (body_at text) e

  pub body_found : (b : StoredBody) → found_in m n ≡ Some b → bodies_of text m n ≡ Some (record { line = b.line; bytes = part text b.start b.end })
  unfolding bodies_of
  body_found b e = ap (body_at text) e

-- ---- The part of a text from one place to another

-- its ends, clipped to the text
abbrev pub clipped : ℕ → ℕ → ℕ
clipped place limit = cond (ltb limit place) limit place

pub clipped_within : (place limit : ℕ) → (clipped place limit ≤ limit) × (clipped place limit ≤ place)
clipped_within place limit = go (ltb limit place) refl
  where
    go : (b : Bool) → ltb limit place ≡ b → (cond b limit place ≤ limit) × (cond b limit place ≤ place)
    go true e = (omega arith, omega (arith, ltb-true limit place e))
    go false e = (omega (arith, ltb-false limit place e), omega arith)

module _ (t : List ℕ) (start end : ℕ) where
  -- the end past the text
  clipped_end : take (clipped end (length t) - start) (drop start t) ≡ take (end - start) (drop start t)
  clipped_end = go (ltb (length t) end) refl
    where
      go : (b : Bool) → ltb (length t) end ≡ b → take (cond b (length t) end - start) (drop start t) ≡ take (end - start) (drop start t)
      go false e = refl
      go true e =
          let i = ltb-true (length t) end e in
          take_all (length t - start) (drop start t) (omega (arith, length-drop start t)) ∙ sym (take_all (end - start) (drop start t) (omega (arith, length-drop start t)))

  -- the start past the end
  pub part_clipped : take (clipped end (length t) - clipped start (clipped end (length t))) (drop (clipped start (clipped end (length t))) t) ≡ part t start end
  unfolding part
  part_clipped = go (ltb (clipped end (length t)) start) refl
    where
      go :
          (b : Bool) → ltb (clipped end (length t)) start ≡ b
          → take (clipped end (length t) - cond b (clipped end (length t)) start) (drop (cond b (clipped end (length t)) start) t) ≡ take (end - start) (drop start t)
      go false e = clipped_end
      go true e =
          let i = ltb-true (clipped end (length t)) start e in
          let z : clipped end (length t) - clipped end (length t) ≡ 0 = omega arith in
          let w : clipped end (length t) - start ≡ 0 = omega (arith, i) in
          rw z (sym (sym clipped_end ∙ ap (λ (n : ℕ). take n (drop start t)) w))

-- ---- Calls

module _ (j : Judging) (bodies : Bodies) (f : Frame) (n line : ℕ) (g : Progress) where
  pub call_missing : (d : ℕ) → bodies n ≡ None → call j bodies d f n line g ≡ refused NotStored line
  unfolding call
  call_missing zero e = simp e
  call_missing (suc d) e = simp e

  pub call_deep : (d : ℕ) (b : Body) → bodies n ≡ Some b → d ≡ 0 → call j bodies d f n line g ≡ refused TooDeep line
  unfolding call
  call_deep d b e z = simp (z, e)

  pub call_body : (d : ℕ) (b : Body) → bodies n ≡ Some b → 0 < d → call j bodies d f n line g ≡ run_body j bodies (d - 1) f b g
  unfolding call run_body
  call_body zero b e h = absurd (omega arith)
  call_body (suc d) b e h = let k : suc d - 1 ≡ d = omega arith in rw k (simp e)

-- ---- A block begins

module _ (j : Judging) (f : Frame) (line : ℕ) (l : List ℕ) (g : Progress) where
  pub begin_spent : may_come j l g ≡ false → begin j f line l g ≡ refused BlocksSpent line
  unfolding begin
  begin_spent e = simp e

  pub begin-refused : may_come j l g ≡ true → (refusal : Refusal) → decode (reader_of f g.state) l ≡ Err refusal → begin j f line l g ≡ refused refusal line
  unfolding begin
  begin-refused e refusal d = simp (e, d)

  pub begin-ok : may_come j l g ≡ true → (i : Instruction) → decode (reader_of f g.state) l ≡ Ok i → begin j f line l g ≡ Ok (begun_by l g i)
  unfolding begin
  begin-ok e i d = simp (e, d)
