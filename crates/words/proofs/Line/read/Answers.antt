-- A word that was read is one more of the line (`goes_some`), and where none follows the line ends here or not (`goes_end`).
use Rattle.std.specs.Prelude.{None, Some}
use mathlib.Core.Path.{◌≡◌, sym, ap, ◌∙◌}
use mathlib.Core.List.{List, [], ◌∷◌, ◌++◌}
use Prim.Native.Nat.{ℕ, ◌+◌, ◌-◌, ◌≤◌, ◌<◌}
use native.Mathlib.Omega.{arith}
use lib.ListN.{length, drop, length-drop}
use Rattle.aries.specs.Words.{LetterWord, word}
use Rattle.words.specs.declared.Line.{Line}
use Rattle.words.specs.declared.Reading.{Reading}
use Rattle.words.specs.Line.{line_of, with_word}
use Rattle.words.proofs.Word.{answer_none, read_as, answer_some, Formed, formed}
use Rattle.words.proofs.Adding.{others_few, line_more}
use Rattle.words.proofs.Gathering.{goes-start, goes_some, goes_all, goes_end}
use Rattle.words.proofs.Line.read.Goals.{In-Some, In_default}
use Rattle.words.proofs.Line.read.Invariants.{Kept}
use Rattle.words.proofs.Line.read.Goals as goal

-- the word that was read at the place
module _ (c : In-Some) where
  abbrev text : List ℕ
  text = c.args.text.now

  abbrev place : ℕ
  place = c.loop-reading.at

  abbrev reading : Reading
  reading = c.in-Some.reading

  abbrev kept : Kept text c.args.from place c.loop-reading.self
  kept = c.loop-reading.invariant

  -- the words with it
  abbrev later : List LetterWord
  later = kept.before ++ read_as place reading ∷ []

  found : (word (drop place text) ≡ Some (read_as place reading)) × (place ≤ reading.end)
  found = answer_some place (word (drop place text)) reading (sym c.in-Some.is ∙ c.read_word.ensures)

  fits : Formed (drop place text) (read_as place reading)
  fits = formed (drop place text) (read_as place reading) found.0

  less : length text - reading.end < length text - place
  less = omega (arith, fits.some_bytes, fits.inside, length-drop place text)

  -- what holds again, with the line as it is then
  again : (l : Line) → l ≡ with_word c.loop-reading.self reading.letter reading.word → Kept text c.args.from reading.end l
  unfolding line_of
  again l e =
      let end : place + (reading.end - place) ≡ reading.end = omega (arith, found.1) in
      let more : l ≡ line_of later = e ∙ ap (λ (k : Line). with_word k reading.letter reading.word) kept.told ∙ line_more kept.before (read_as place reading) in
      record {
        before = later;
        goes = rw end at (goes_some text c.args.from place kept.before kept.goes (read_as place reading) found.0);
        told = more;
        few = omega (arith, ap (λ (k : Line). k.others) more, ap (λ (k : Line). k.others) kept.told, others_few kept.before (read_as place reading), fits.some_bytes, kept.few);
      }

-- no word stands there
absent : (c : In_default) → word (drop c.loop-reading.at c.args.text.now) ≡ None
absent c = answer_none c.loop-reading.at (word (drop c.loop-reading.at c.args.text.now)) (sym c.in_default.is ∙ c.read_word.ensures)

pub loop-reading-init : goal.loop-reading-init
unfolding line_of
loop-reading-init c =
    record { before = []; goes = goes-start c.args.text.now c.args.from; told = c.requires; few = omega (arith, ap (λ (k : Line). k.others) c.requires) }

pub add-requires : goal.add-requires
add-requires c = let s = (goal.at.add-requires c).In-Some in omega (arith, less s, (kept s).few)

pub loop-reading-smaller : goal.loop-reading-smaller
loop-reading-smaller c = less (goal.at.loop-reading-smaller c).In-Some

pub loop-reading-preserved : goal.loop-reading-preserved
loop-reading-preserved c = again (goal.at.loop-reading-preserved c).In-Some c.add.new.self c.add.ensures

pub returns-then-is_line_end : goal.returns-then-is_line_end
returns-then-is_line_end c =
    let k = c.loop-reading.invariant in
    let n = absent (goal.at.returns-then-is_line_end c).In_default in
    record {
      end = sym (goes_end c.args.text.now c.args.from c.loop-reading.at k.before k.goes n ∙ simp (← c.is_line_end.ensures, c.if-is_line_end.true));
      words = k.told ∙ ap line_of (sym (goes_all c.args.text.now c.args.from c.loop-reading.at k.before k.goes n));
    }

pub returns-else-is_line_end : goal.returns-else-is_line_end
returns-else-is_line_end c =
    let k = c.loop-reading.invariant in
    let n = absent (goal.at.returns-else-is_line_end c).In_default in
    record {
      end = sym (goes_end c.args.text.now c.args.from c.loop-reading.at k.before k.goes n ∙ simp (← c.is_line_end.ensures, c.if-is_line_end.false));
      words = k.told ∙ ap line_of (sym (goes_all c.args.text.now c.args.from c.loop-reading.at k.before k.goes n));
    }
