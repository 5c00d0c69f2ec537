-- What comes after a stretch: where it is a block, its line ends behind the place where the stretch began, within the text,
-- and its number goes up with the place.
use Rattle.std.specs.Prelude.{Ok, Err, Option, Some, None}
use mathlib.Core.Path.{◌≡◌, refl, sym, ap, subst, ◌∙◌}
use mathlib.Core.Bool.{Bool, true, false}
use mathlib.Core.List.{List, [], ◌∷◌, head-eq_of_cons-eq, tail-eq_of_cons-eq}
use Prim.Native.Nat.{ℕ, ◌+◌, ◌<◌, ◌≤◌}
use native.Mathlib.Omega.{arith}
use borrow.Author.Tests.{ltb-true, ltb-false}
use lib.Dec.{ltb}
use lib.ListN.{length, get_or, drop, length-drop}
use lib.Seq.{length-take-le, get_or-drop}
use Rattle.aries.specs.declared.block.Block.{Block}
use Rattle.aries.specs.declared.location.Location.{Location}
use Rattle.aries.specs.declared.state.Frame.{Frame}
use Rattle.aries.specs.declared.state.Progress.{Progress}
use Rattle.aries.specs.declared.refusal.Refused.{Refused}
use Rattle.aries.specs.Outcome.{Out, ◌>>=◌}
use Rattle.aries.specs.Entries.{Made, adding, and_then, map_after}
use Rattle.aries.specs.Judging.{Judging}
use Rattle.aries.specs.Macros.{carry_direct, Begun, begin}
use Rattle.aries.specs.Text.{lines, line_feed}
use Rattle.aries.specs.Runs.{left_of}
use Rattle.aries.proofs.Runs.{accepted_as}
use Rattle.text.specs.Lines.{line_length, line_at, line_end}
use Rattle.text.proofs.Lines.{line-short, line-inside, feed_after, lines_at, lines-past}
use Rattle.stretches.specs.declared.Sequel.{Sequel}
use Rattle.stretches.specs.Stretches.{Stretch, going, block_step, line_step, onward, end_of, behind, stretch}

-- ---- What is left has a property

-- of what is left, if it is accepted
abbrev LeftBy : {A : Type 0} → (A → Type 0) → Out (Made A) → Type 0
LeftBy P (Ok m) = P m.after
LeftBy P (Err e) = Unit {0}

pub record Left {A : Type 0} (P : A → Type 0) (x : Out (Made A)) : Type 0 where
  pub left : LeftBy P x

-- a refusal leaves nothing
pub left_err : {A : Type 0} {P : A → Type 0} {e : Refused} → Left P (Err e)
left_err = record { left = tt }

pub left_ok : {A : Type 0} {P : A → Type 0} {m : Made A} → P m.after → Left P (Ok m)
left_ok h = record { left = h }

-- one thing after the other
pub left_then :
    {A : Type 0} {P Q : A → Type 0} (x : Out (Made A)) (f : A → Out (Made A)) → Left P x → ((a : A) → P a → Left Q (f a)) → Left Q (and_then x f)
left_then (Err e) f h k = left_err
left_then {Q = Q} (Ok m) f h k = go (f m.after) (k m.after h.left)
  where
    go : (y : Out (Made _)) → Left Q y → Left Q (adding m.entries y)
    go (Ok n) i = record { left = i.left }
    go (Err e) i = left_err

-- what a function hands back
pub left_made : {A : Type 0} {P : A → Type 0} (x : Out (Made A)) {a : A} → Ok a ≡ left_of x → Left P x → P a
left_made {P = P} x {a} e h =
    let k = accepted_as a x e in
    subst P k.after_is (subst (λ (y : Out (Made _)). LeftBy P y) k.out_is h.left)

-- ---- Where what comes after lies

-- a line's end in a text, seen from a place
pub record Behind (t : List ℕ) (at end : Location) : Type 0 where
  pub after : at.offset < end.offset
  pub inside : end.offset ≤ length t
  pub paced : end.line + at.offset ≤ at.line + end.offset

abbrev pub SequelBehind : List ℕ → Location → Option Sequel → Type 0
SequelBehind t at None = Unit {0}
SequelBehind t at (Some (Sequel.Call c end)) = Behind t at end
SequelBehind t at (Some (Sequel.Outside o end)) = Behind t at end

abbrev pub StretchBehind : List ℕ → Location → Stretch → Type 0
StretchBehind t at s = SequelBehind t at s.sequel

-- from further back
further :
    (t : List ℕ) (at at' : Location) (s : Option Sequel) → at.offset ≤ at'.offset → at'.line + at.offset ≤ at.line + at'.offset
    → SequelBehind t at' s → SequelBehind t at s
further t at at' None h k b = tt
further t at at' (Some (Sequel.Call c end)) h k b = record { after = omega (arith, b.after); inside = b.inside; paced = omega (arith, b.paced) }
further t at at' (Some (Sequel.Outside o end)) h k b = record { after = omega (arith, b.after); inside = b.inside; paced = omega (arith, b.paced) }

-- a first line there is lies within the text, and a line feed stands behind it unless the text ends there
pub first-line :
    (t : List ℕ) (at : ℕ) (l : List ℕ) (ls : List (List ℕ)) → lines (drop at t) ≡ l ∷ ls
    → (at + length l ≤ length t) × (lines (drop (at + length l + 1) t) ≡ ls) × (at + length l < length t → get_or t (at + length l) 0 ≡ line_feed)
first-line t at l ls e = go (ltb at (length t)) refl
  where
    go :
        (b : Bool) → ltb at (length t) ≡ b
        → (at + length l ≤ length t) × (lines (drop (at + length l + 1) t) ≡ ls) × (at + length l < length t → get_or t (at + length l) 0 ≡ line_feed)
    go false p =
        let z : [] ≡ l ∷ ls = sym (lines-past t at (ltb-false at (length t) p)) ∙ e in
        let w : ◌≡◌ {A = ℕ} 0 1 = cc in
        absurd (omega arith)
    go true p =
        let i = ltb-true at (length t) p in
        let c : line_at t at ∷ lines (drop (line_end t at + 1) t) ≡ l ∷ ls = sym (lines_at t at i) ∙ e in
        let n : length l ≡ line_length (drop at t) = sym (ap length (head-eq_of_cons-eq c)) ∙ length-take-le (line_length (drop at t)) (drop at t) (line-short (drop at t)) in (
          omega (arith, n, line-inside t at (omega (arith, i))),
          ap (λ (k : ℕ). lines (drop (at + k + 1) t)) n ∙ tail-eq_of_cons-eq c,
          λ h. ap (λ (k : ℕ). get_or t (at + k) 0) n ∙ sym (get_or-drop at t (line_length (drop at t)) 0) ∙ feed_after (drop at t) (simp length-drop (omega (arith, n))),
        )

module _ (t : List ℕ) (j : Judging) (f : Frame) where
  -- one line
  line-behind : (at : Location) (l : List ℕ) (g : Progress) → at.offset + length l ≤ length t → Left (StretchBehind t at) (line_step j f (end_of at (length l)) l g)
  line-behind at [] g h = left_ok tt
  line-behind at (b ∷ bs) g h = begins (begin j f at.line (b ∷ bs) g)
    where
      end : Location
      end = end_of at (length (b ∷ bs))

      here : Behind t at end
      here = record { after = omega arith; inside = h; paced = omega arith }

      carried : (x : Out (Made Progress)) → Left (StretchBehind t at) (map_after going x)
      carried (Ok m) = left_ok tt
      carried (Err e) = left_err

      blocks : (d : Block) (g : Progress) → Left (StretchBehind t at) (block_step j f end d g)
      blocks (Block.Direct d) g = carried (carry_direct j f end.line d g)
      blocks (Block.Call c) g = left_ok here
      blocks (Block.Outside o) g = left_ok here

      begins : (x : Out Begun) → Left (StretchBehind t at) (◌>>=◌ x (λ b. block_step j f end b.block b.progress))
      begins (Err e) = left_err
      begins (Ok x) = blocks x.block x.progress

  -- and what follows it
  onward-behind :
      (at : Location) (rest : Progress → Out (Made Stretch)) (s : Stretch) → StretchBehind t at s → ((g : Progress) → Left (StretchBehind t at) (rest g))
      → Left (StretchBehind t at) (onward rest s)
  onward-behind at rest s h k = go s.sequel h
    where
      go : (q : Option Sequel) → SequelBehind t at q → Left (StretchBehind t at) (onward rest (record { progress = s.progress; sequel = q }))
      go None h = k s.progress
      go (Some q) h = left_ok h

  lines-behind : (ls : List (List ℕ)) (at : Location) (g : Progress) → lines (drop at.offset t) ≡ ls → Left (StretchBehind t at) (stretch j f at ls g)
  unfolding stretch
  lines-behind [] at g e = left_ok tt
  lines-behind (l ∷ ls) at g e =
      let w = first-line t at.offset l ls e in
      let next = behind (end_of at (length l)) in
      left_then (line_step j f (end_of at (length l)) l g) _ (line-behind at l g w.0)
      (λ s h. onward-behind at (stretch j f next ls) s h
      (λ p. nearer (stretch j f next ls p) next (omega arith) (omega arith) (lines-behind ls next p w.1)))
    where
      nearer :
          (x : Out (Made Stretch)) (at' : Location) → at.offset ≤ at'.offset → at'.line + at.offset ≤ at.line + at'.offset
          → Left (StretchBehind t at') x → Left (StretchBehind t at) x
      nearer (Ok m) at' a b h = left_ok (further t at at' m.after.sequel a b h.left)
      nearer (Err e) at' a b h = left_err

  -- the stretch from a place on
  pub stretch-behind : (at : Location) (g : Progress) → Left (StretchBehind t at) (stretch j f at (lines (drop at.offset t)) g)
  stretch-behind at g = lines-behind (lines (drop at.offset t)) at g refl
