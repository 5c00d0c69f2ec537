-- What the words of a block are judged to be, and what judging leaves of them.
use Rattle.std.specs.Prelude.{cond, ◌&&◌, None, Option, Some, Result, Ok, Err}
use Rattle.aries.specs.declared.reader.Reader.{Reader}
use Rattle.aries.specs.declared.block.Kind.{Kind}
use Rattle.aries.specs.declared.block.Measure.{Measure}
use Rattle.aries.specs.declared.refusal.Refusal.{Refusal}
use Rattle.aries.specs.declared.refusal.Refusal.TheVariants.{NotListed, WrongNumber}
use Rattle.aries.specs.Forms.{kind_of}
use Rattle.aries.specs.Numbers.{in_hundredths, lengths_fit, is_ranged}
use Rattle.words.specs.declared.Line.{Line}
use Rattle.blocks.specs.Counting.{is_counted}

-- 6
abbrev pub ranged_as : Reader → Line → Kind → Result (Kind × Option Measure) Refusal
ranged_as r l k =
    cond (lengths_fit r.setting k l.words.letters && is_ranged (in_hundredths r.setting k l.words.letters) k)
    (Ok (k, l.words.measure))
    (Err WrongNumber)

-- what words are judged to be as those of a kind, if there is one: 5, then 6
abbrev pub judged_as : Reader → Line → Option Kind → Result (Kind × Option Measure) Refusal
judged_as r l None = Err NotListed
judged_as r l (Some k) = cond (is_counted r.given l k) (ranged_as r l k) (Err NotListed)

-- what the words of a block are judged to be
abbrev pub judged_of : Reader → Line → Result (Kind × Option Measure) Refusal
judged_of r l = judged_as r l (kind_of l.words)

-- with its lengths and angles in hundredths
abbrev pub put_in_hundredths : Reader → Line → Kind → Line
put_in_hundredths r l k =
    record {
      words = record { letters = in_hundredths r.setting k l.words.letters; code = l.words.code; measure = l.words.measure };
      others = l.others;
      begun = l.begun;
      misplaced = l.misplaced;
    }

-- the words that judging leaves: past 5 they are in hundredths
abbrev pub left_as : Reader → Line → Option Kind → Line
left_as r l None = l
left_as r l (Some k) = cond (is_counted r.given l k) (put_in_hundredths r l k) l

abbrev pub line_left : Reader → Line → Line
line_left r l = left_as r l (kind_of l.words)
