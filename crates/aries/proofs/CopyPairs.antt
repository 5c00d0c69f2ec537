-- A pair of programs that demand 3 compares, by computation.
use Rattle.std.specs.Prelude.{Ok, Some, None}
use mathlib.Core.Path.{◌≡◌, refl, sym, ap, ◌∙◌, subst}
use mathlib.Core.Bool.{Bool, true, false}
use mathlib.Core.List.{List, [], ◌∷◌}
use Prim.Native.Nat.{ℕ}
use borrow.Author.Tests.{eqb-true, eqb-false}
use lib.Dec.{eqb}
use lib.IntN.{pos}
use Rattle.aries.specs.declared.block.Copies.{Copies}
use Rattle.aries.specs.declared.block.Layout.{Layout}
use Rattle.aries.specs.declared.block.Outside.TheVariants.{Copy}
use Rattle.aries.specs.declared.block.Block.TheVariants.{Outside}
use Rattle.aries.specs.declared.block.Instruction.{Instruction}
use Rattle.aries.specs.declared.machine.Machine.TheVariants.{Aries222}
use Rattle.aries.specs.declared.macros.Macros.{Macros}
use Rattle.aries.specs.declared.reader.Setting.TheVariants.{Hundredths}
use Rattle.aries.specs.declared.setup.Program.{Program}
use Rattle.aries.specs.declared.setup.Setup.{Setup}
use Rattle.aries.specs.declared.setup.Stage.{Stage}
use Rattle.aries.specs.declared.setup.Stage.TheVariants.{Running, Storing}
use Rattle.aries.specs.Text.{bytes, lines}
use Rattle.aries.specs.Reader.{reader_at, given_of}
use Rattle.aries.specs.Blocks.{decode}
use Rattle.aries.specs.Moves.{point_at, zero_point, moved_to, fresh_state}
use Rattle.aries.specs.Macros.{no_macros, storing, part, bodies_of, is_counted}
use Rattle.aries.specs.Setup.{fresh_setup, with_machine, with_origin}
use Rattle.aries.specs.Program.{run_block_outside, fresh_program}
use Rattle.aries.specs.CopyRuns.{Circumstances, bytes_of}
use Rattle.aries.specs.CopyBlocks.{circumstances, Reached, start, next}
use Rattle.aries.specs.CopyPairs.{ComesTo, sheet_by, job, PairAlike}
use Rattle.aries.proofs.Calls.{body_missing}
use Rattle.aries.proofs.Storage.{found_fresh, found_other}

-- ---- What the five lines before the block leave

-- the layout of two by two places, 10 mm apart
abbrev sheet : Layout
sheet = record { reference = zero_point; pitch = record { x = 1000; y = 1000 }; steps = record { x = 1; y = 1 } }

abbrev bare : Setup
bare = with_machine (fresh_setup job) Aries222

abbrev laid : Setup
laid = with_origin bare (Some sheet) zero_point

-- the part, nine characters in line 4
abbrev stored : Macros
stored = storing no_macros 60 (record { start = 38; end = 47; line = 4 })

-- so many blocks carried out, and no entry
abbrev program : Stage → Setup → Macros → ℕ → Program
program t s m n =
    record { stage = t; setup = s; macros = m; progress = record { state = moved_to fresh_state (point_at (pos 60000) (pos 60000)); blocks = n; entries = 0 } }

-- a text that has these lines first comes to the line behind them
comes :
    (text : List ℕ) (ls : List (List ℕ))
    → lines text ≡ bytes "G92X600.Y600." ∷ bytes "G98X0Y0I10.J10.P1K1" ∷ bytes "U60" ∷ bytes "X1.Y1.T2" ∷ bytes "V60" ∷ ls
    → Reached job text 51 6 ls (program Running laid stored 3)
unfolding bytes run_block_outside
comes text ls e =
    let at1 : Reached job text 0 1 _ (fresh_program job) = subst (λ (k : List (List ℕ)). Reached job text 0 1 k (fresh_program job)) e start in
    let at2 : Reached job text 14 2 _ (program Running bare no_macros 1) = next {m = record { entries = []; after = program Running bare no_macros 1 }} at1 refl in
    let at3 : Reached job text 34 3 _ (program Running laid no_macros 2) = next {m = record { entries = []; after = program Running laid no_macros 2 }} at2 refl in
    let at4 : Reached job text 38 4 _ (program Storing laid stored 3) = next {m = record { entries = []; after = program Storing laid stored 3 }} at3 refl in
    let at5 : Reached job text 47 5 _ (program Storing laid stored 3) = next {m = record { entries = []; after = program Storing laid stored 3 }} at4 refl in
    next {m = record { entries = []; after = program Running laid stored 3 }} at5 refl

-- ---- What the block finds

abbrev copies_by : Bool → Copies
copies_by vertical = record { vertical = vertical; part = 60; corner = 1 }

abbrev finds : List ℕ → Bool → Circumstances
finds text vertical = circumstances text 6 (copies_by vertical) (program Running laid stored 4)

abbrev instruction_by : Bool → Instruction
instruction_by vertical = record { measure = None; block = Outside (Copy (copies_by vertical)) }

-- a text whose sixth line is such a block comes to it
comes_to :
    (text block : List ℕ) (vertical : Bool)
    → lines text ≡ bytes "G92X600.Y600." ∷ bytes "G98X0Y0I10.J10.P1K1" ∷ bytes "U60" ∷ bytes "X1.Y1.T2" ∷ bytes "V60" ∷ block ∷ bytes "G50" ∷ []
    → decode (reader_at Hundredths (given_of fresh_state)) block ≡ Ok (instruction_by vertical) → is_counted block ≡ true → ComesTo job text vertical (finds text vertical)
comes_to text block vertical e d k =
    record {
      at = 51;
      line = 6;
      block = block;
      after = bytes "G50" ∷ [];
      program = program Running laid stored 3;
      reached = comes text (block ∷ bytes "G50" ∷ []) e;
      instruction = instruction_by vertical;
      decoded = d;
      copies = copies_by vertical;
      asks = refl;
      order = refl;
      found = rw k;
    }

by75 : ComesTo job (sheet_by "G75") false (finds (sheet_by "G75") false)
unfolding lines sheet_by bytes decode
by75 = comes_to (sheet_by "G75") (bytes "G75W60Q1") false refl refl refl

by76 : ComesTo job (sheet_by "G76") true (finds (sheet_by "G76") true)
unfolding lines sheet_by bytes decode
by76 = comes_to (sheet_by "G76") (bytes "G76W60Q1") true refl refl refl

-- one body is stored in both, in the bytes that they share
same-bodies : (n : ℕ) → bytes_of (bodies_of (sheet_by "G75") stored n) ≡ bytes_of (bodies_of (sheet_by "G76") stored n)
unfolding bodies_of part sheet_by bytes
same-bodies n = go (eqb n 60) refl
  where
    go : (t : Bool) → eqb n 60 ≡ t → bytes_of (bodies_of (sheet_by "G75") stored n) ≡ bytes_of (bodies_of (sheet_by "G76") stored n)
    go true e = subst (λ (k : ℕ). bytes_of (bodies_of (sheet_by "G75") stored k) ≡ bytes_of (bodies_of (sheet_by "G76") stored k)) (sym (eqb-true n 60 e)) refl
    go false e =
        let none-there = found_other no_macros 60 n (record { start = 38; end = 47; line = 4 }) (eqb-false n 60 e) ∙ found_fresh n in
        ap bytes_of (body_missing (sheet_by "G75") stored n none-there) ∙ sym (ap bytes_of (body_missing (sheet_by "G76") stored n none-there))

pub pair_alike : PairAlike
pair_alike =
    record {
      first = finds (sheet_by "G75") false;
      second = finds (sheet_by "G76") true;
      by75 = by75;
      by76 = by76;
      alike =
          record {
            parts = record { setting = refl; machine = refl; state = refl; bodies = same-bodies; part = same-bodies 60 };
            sheet = refl;
            origin = refl;
            corner = refl;
            blocks = refl;
            free = refl;
          };
    }
