-- Laws of the instruction of a line, from what is kept of its words.
use mathlib.Core.Path.{◌≡◌, refl, sym, ap, ◌∙◌}
use mathlib.Core.Bool.{Bool, true, false, cond, ◌&&◌}
use mathlib.Core.List.{List}
use Rattle.std.specs.Prelude.{None, Some, Option, Err, Ok, Result}
use Rattle.aries.specs.declared.refusal.Refusal.TheVariants.{NotListed, WrongNumber}
use Rattle.aries.specs.declared.block.Instruction.{Instruction}
use Rattle.aries.specs.declared.block.Kind.{Kind}
use Rattle.aries.specs.declared.block.Measure.{Measure}
use Rattle.aries.specs.declared.reader.Reader.{Reader}
use Rattle.aries.specs.declared.word.Words.{Words}
use Rattle.aries.specs.declared.refusal.Refusal.{Refusal}
use Rattle.aries.proofs.Outcomes.{ok_injective, err≢ok}
use Rattle.aries.specs.Words.{LetterWord}
use Rattle.aries.specs.ByLetter.{Letters, by_letter}
use Rattle.aries.specs.Forms.{in_places, kind_of, is_listed}
use Rattle.aries.specs.Numbers.{in_hundredths, lengths_fit, is_ranged}
use Rattle.aries.specs.Blocks.{block_of, instruction_of, listed_as, decode_words}
use Rattle.words.specs.Line.{line_of}
use Rattle.words.proofs.Gathering.{AllFormed}
use Rattle.lengths.specs.Sized.{Sized}
use Rattle.lengths.proofs.Sized.{by_letter_sized}
use Rattle.lengths.proofs.Hundredths.{both_pass, hundredths_sized}
use Rattle.blocks.specs.Decoding.{judged_as, judged_of, put_in_hundredths, left_as, line_left}
use Rattle.blocks.proofs.Counting.{is_counted_lem}

-- the instruction of a block that is judged, by its letters
abbrev pub instruction_by : Letters → Result (Kind × Option Measure) Refusal → Result Instruction Refusal
instruction_by w (Ok (k, m)) = Ok (record { measure = m; block = block_of w k })
instruction_by w (Err refusal) = Err refusal

module _ (r : Reader) (ws : List LetterWord) (f : AllFormed ws) where
  abbrev w : Words
  w = by_letter ws

  -- ---- As words of a kind
  module _ (kind : Kind) where
    -- all lengths and angles in hundredths
    abbrev hundredths : Letters
    hundredths = in_hundredths r.setting kind w.letters

    -- 5 and 6
    abbrev is_known : Bool
    is_known = in_places ws && is_listed r.given w kind

    abbrev is_fit : Bool
    is_fit = lengths_fit r.setting kind w.letters && is_ranged hundredths kind

    -- by the two tests
    judged-kind : judged_as r (line_of ws) (Some kind) ≡ cond is_known (cond is_fit (Ok (kind, w.measure)) (Err WrongNumber)) (Err NotListed)
    unfolding line_of
    judged-kind = rw (is_counted_lem r.given ws kind f)

    left-kind : (left_as r (line_of ws) (Some kind)).words.letters ≡ cond is_known hundredths w.letters
    unfolding line_of
    left-kind = ap (λ (t : Bool). (cond t (put_in_hundredths r (line_of ws) kind) (line_of ws)).words.letters) (is_counted_lem r.given ws kind f) ∙ go is_known
      where
        go : (t : Bool) → (cond t (put_in_hundredths r (line_of ws) kind) (line_of ws)).words.letters ≡ cond t hundredths w.letters
        go true = refl
        go false = refl

  -- where there is one
  abbrev judged : Option Kind → Result (Kind × Option Measure) Refusal
  judged o = judged_as r (line_of ws) o

  abbrev left : Option Kind → Letters
  left o = (left_as r (line_of ws) o).words.letters

  decodes_as : (o : Option Kind) → listed_as r ws o ≡ instruction_by (left o) (judged o)
  decodes_as None = refl
  decodes_as (Some kind) = rw (judged-kind kind, left-kind kind) (go (is_known kind) (is_fit kind))
    where
      h : Letters
      h = hundredths kind

      go :
          (l t : Bool)
          → cond l (cond t (Ok (instruction_of kind w.measure h)) (Err WrongNumber)) (Err NotListed)
          ≡ instruction_by (cond l h w.letters) (cond l (cond t (Ok (kind, w.measure)) (Err WrongNumber)) (Err NotListed))
      go true true = refl
      go true false = refl
      go false t = refl

  ranged_as_kind : (o : Option Kind) (k : Kind) (m : Option Measure) → judged o ≡ Ok (k, m) → Sized (left o) × (is_ranged (left o) k ≡ true)
  ranged_as_kind None k m e = absurd (err≢ok NotListed (k, m) e)
  ranged_as_kind (Some kind) k m e = rw (left-kind kind) (go (is_known kind) (is_fit kind) refl (sym (judged-kind kind) ∙ e))
    where
      h : Letters
      h = hundredths kind

      go :
          (l t : Bool) → is_fit kind ≡ t
          → cond {A = Result (Kind × Option Measure) Refusal} l (cond t (Ok (kind, w.measure)) (Err WrongNumber)) (Err NotListed) ≡ Ok (k, m)
          → Sized (cond l h w.letters) × (is_ranged (cond l h w.letters) k ≡ true)
      go true true q j =
          let a = ap (λ (p : Kind × Option Measure). p.0) (ok_injective (kind, w.measure) (k, m) j) in
          let both = both_pass r.setting kind w.letters h q in
          (hundredths_sized r.setting kind w.letters (by_letter_sized ws f) both.0, rw (sym a) both.1)
      go true false q j = absurd (err≢ok WrongNumber (k, m) j)
      go false t q j = absurd (err≢ok NotListed (k, m) j)

  -- ---- The words of a block

  -- it is the instruction of the words
  pub judged_decodes : decode_words r ws ≡ instruction_by (line_left r (line_of ws)).words.letters (judged_of r (line_of ws))
  unfolding decode_words line_of
  judged_decodes = decodes_as (kind_of w)

  -- a kind is one whose ranges hold, of words that are sized
  pub judged-ranged :
      (k : Kind) (m : Option Measure) → judged_of r (line_of ws) ≡ Ok (k, m)
      → Sized (line_left r (line_of ws)).words.letters × (is_ranged (line_left r (line_of ws)).words.letters k ≡ true)
  unfolding line_of
  judged-ranged k m e = ranged_as_kind (kind_of w) k m e
