-- Laws of `begin_at`: how a block that is ahead begins, by what decoding its line answers.
use Rattle.std.specs.Prelude.{Ok, Err, Result}
use mathlib.Core.Path.{◌≡◌, refl, sym, ap, ◌∙◌}
use mathlib.Core.Bool.{Bool, true, false, not, ◌&&◌, ◌||◌}
use mathlib.Core.List.{List}
use Prim.Native.Nat.{ℕ}
use borrow.Author.Tests.{leb-true, leb-false, lt-ltb, le-ltb}
use lib.Dec.{eqb, leb, ltb}
use lib.ListN.{get_or}
use Rattle.aries.specs.declared.block.Instruction.{Instruction}
use Rattle.aries.specs.declared.location.Location.{Location}
use Rattle.aries.specs.declared.refusal.Refusal.{Refusal}
use Rattle.aries.specs.declared.refusal.Refusal.TheVariants.{BlocksSpent}
use Rattle.aries.specs.declared.state.Frame.{Frame}
use Rattle.aries.specs.declared.state.Progress.{Progress}
use Rattle.aries.specs.Blocks.{decode}
use Rattle.aries.specs.Judging.{Judging, limits}
use Rattle.aries.specs.Letters.{letter_v}
use Rattle.aries.specs.Macros.{Begun, is_counted, may_come, begun, begun_by, begin}
use Rattle.aries.specs.Outcome.{Out, ◌>>=◌, refused, need, in_line}
use Rattle.aries.specs.Reader.{reader_of}
use Rattle.aries.proofs.Calls.{begin_spent, begin-refused, begin-ok}
use Rattle.aries.proofs.Outcomes.{err≢ok, ok_injective}
use Rattle.text.specs.Lines.{line_at, line_end}
use Rattle.text.proofs.Lines.{first_byte}
use Rattle.decode.specs.Decoding.{decoded_of}
use Rattle.stretches.specs.declared.Ahead.{Ahead}
use Rattle.stretches.specs.Lookahead.{Known}
use Rattle.stretches.specs.Stretches.{begin_at}
use Rattle.stretches.proofs.Stretches.{line_end_at}

-- whether a block counts, by the byte at its place
abbrev pub counted_at : List ℕ → Ahead → Bool
counted_at t x = not (eqb (get_or t x.at.offset 0) letter_v)

-- the code's test for one block too many
spent : (counted : Bool) (blocks : ℕ) → counted && leb 100000 blocks ≡ true → not counted || ltb blocks 100000 ≡ false
spent true blocks e = le-ltb blocks 100000 (leb-true 100000 blocks e)
spent false blocks e = sym e

pub not_spent : (counted : Bool) (blocks : ℕ) → counted && leb 100000 blocks ≡ false → not counted || ltb blocks 100000 ≡ true
not_spent true blocks e = lt-ltb blocks 100000 (leb-false 100000 blocks e)
not_spent false blocks e = refl

-- with the end of its line
abbrev ending : Location → Out Begun → Out (Begun × Location)
ending end o = ◌>>=◌ o (λ b. Ok (b, end))

-- the block of an instruction, in a line that ends at a place, begins
abbrev pub begun_in : Bool → Progress → ℕ → Instruction × ℕ → Begun × Location
begun_in counted g line p = (record { block = p.0.block; progress = begun counted p.0.measure g }, record { offset = p.1; line = line })

module _ (f : Frame) (t : List ℕ) (x : Ahead) (g : Progress) (known : Known (reader_of f g.state) t x) where
  abbrev counted : Bool
  counted = counted_at t x

  same-counted : is_counted (line_at t x.at.offset) ≡ counted
  same-counted = ap not (first_byte (λ b. eqb b letter_v) refl refl t x.at.offset known.inside)

  -- one block too many
  pub begin_at-spent : counted && leb 100000 g.blocks ≡ true → begin_at (limits f.job) f t x.at g ≡ refused BlocksSpent x.at.line
  begin_at-spent e = ap (ending (line_end_at t x.at)) (begin_spent (limits f.job) f x.at.line (line_at t x.at.offset) g (rw same-counted (spent counted g.blocks e)))

  -- or else as decoding the line answers
  pub begin_at-decoded :
      counted && leb 100000 g.blocks ≡ false → {o : Out (Instruction × ℕ)} → in_line x.at.line x.decoded ≡ o
      → begin_at (limits f.job) f t x.at g ≡ ◌>>=◌ o (λ p. Ok (begun_in counted g x.at.line p))
  begin_at-decoded room e = rw (← e, known.decoded) (go (decode (reader_of f g.state) (line_at t x.at.offset)) refl)
    where
      may : may_come (limits f.job) (line_at t x.at.offset) g ≡ true
      may = rw same-counted (not_spent counted g.blocks room)

      go :
          (o : Result Instruction Refusal) → decode (reader_of f g.state) (line_at t x.at.offset) ≡ o
          → begin_at (limits f.job) f t x.at g ≡ ◌>>=◌ (in_line x.at.line (decoded_of (line_end t x.at.offset) o)) (λ p. Ok (begun_in counted g x.at.line p))
      go (Ok i) e = ap (ending (line_end_at t x.at)) (begin-ok (limits f.job) f x.at.line (line_at t x.at.offset) g may i e) ∙ rw same-counted refl
      go (Err refusal) e = ap (ending (line_end_at t x.at)) (begin-refused (limits f.job) f x.at.line (line_at t x.at.offset) g may refusal e)

-- a block that has begun has made no entry, and its end is that of the line
pub begin_at-ok :
    (j : Judging) (f : Frame) (t : List ℕ) (at : Location) (g : Progress) {b : Begun} {end : Location}
    → begin_at j f t at g ≡ Ok (b, end) → (b.progress.entries ≡ g.entries) × (end ≡ line_end_at t at)
unfolding begin
begin_at-ok j f t at g {b} {end} is = go (may_come j (line_at t at.offset) g) (decode (reader_of f g.state) (line_at t at.offset)) is
  where
    go :
        (may : Bool) (o : Result Instruction Refusal)
        → ending (line_end_at t at) (◌>>=◌ (need may BlocksSpent at.line) (λ _. ◌>>=◌ (in_line at.line o) (λ i. Ok (begun_by (line_at t at.offset) g i)))) ≡ Ok (b, end)
        → (b.progress.entries ≡ g.entries) × (end ≡ line_end_at t at)
    go false o e = absurd (err≢ok _ _ e)
    go true (Err refusal) e = absurd (err≢ok _ _ e)
    go true (Ok i) e =
        let p = ok_injective _ _ e in
        (sym (ap (λ (q : Begun × Location). q.0.progress.entries) p), sym (ap (λ (q : Begun × Location). q.1) p))
