-- A letter that comes is none of those before it (`apart_before`), so it stands as it was (`others_stay`).
use Rattle.std.specs.Prelude.{Option}
use mathlib.Core.Path.{◌≡◌, ap, ap₂, ◌∙◌}
use mathlib.Core.Bool.{Bool, ◌&&◌}
use mathlib.Core.List.{List, [], ◌∷◌}
use Prim.Native.Nat.{ℕ}
use native.Mathlib.Omega.{arith}
use lib.ListN.{get_or, take}
use Rattle.std.proofs.lemmas.List.{take_more}
use Rattle.aries.specs.declared.word.Word.{Word}
use Rattle.aries.specs.declared.word.Words.{Words}
use Rattle.aries.specs.declared.reader.Setting.TheVariants.{Millimetres}
use Rattle.aries.specs.ByLetter.{Letters, at, absent_or}
use Rattle.aries.specs.Judging.{is_near}
use Rattle.aries.specs.Numbers.{length_of}
use Rattle.lengths.specs.Hundredths.{fits, hundredths_put}
use Rattle.lengths.proofs.Hundredths.{hundredths_snoc, every_snoc, others_stay, apart_before}
use Rattle.lengths.proofs.all_to_hundredths.Goals.{In-loop-letter}
use Rattle.lengths.proofs.all_to_hundredths.Goals as goal

module _ (c : In-loop-letter) where
  abbrev letters : List ℕ
  letters = c.args.letters.now

  abbrev place : ℕ
  place = c.loop-letter.letter-index

  abbrev letter : ℕ
  letter = get_or letters place 0

  abbrev words : Letters
  words = c.args.words.now.letters

  -- the letter that comes stands as it stood
  stays : at c.loop-letter.words.letters letter ≡ at words letter
  stays =
      ap (λ (w : Words). at w.letters letter) c.loop-letter.invariant.0
      ∙ (others_stay Millimetres (take place letters) words letter (apart_before letters place c.requires.apart (omega (arith, c.loop-letter-test.true))))

pub one_to_hundredths-near-requires : goal.one_to_hundredths-near-requires
one_to_hundredths-near-requires c =
    let s = (goal.at.one_to_hundredths-near-requires c).In-loop-letter in
    rw (stays s) (c.requires.sized.each (letter s))

pub loop-letter-preserved : goal.loop-letter-preserved
loop-letter-preserved c =
    let s = (goal.at.loop-letter-preserved c).In-loop-letter in
    let more = take_more (letters s) (place s) 0 c.loop-letter-test.true in
    let before = take (place s) (letters s) in
    let test : Option Word → Bool = absent_or (λ (v : Word). is_near (length_of Millimetres v)) in
    let one = c.one_to_hundredths-near.ensures in (
      one.put
          ∙ ap (λ (w : Words). hundredths_put w (letter s ∷ [])) c.loop-letter.invariant.0
          ∙ rw (more, hundredths_snoc Millimetres (words s) before (letter s)),
      ap₂ ◌&&◌ c.loop-letter.invariant.1 (one.near ∙ ap test (stays s))
          ∙ rw (more, every_snoc (fits (words s)) before (letter s)),
    )
