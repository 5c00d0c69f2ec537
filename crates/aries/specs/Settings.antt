-- That setting 1 is document 01, that a text has one setting, and what is the same at both. (Document 02, §1.)
use Rattle.std.specs.Prelude.{◌≡◌, true, cond, ◌&&◌, List, ℕ, ℤ, pos, Err, Ok, Option, Some, None, Result}
use Rattle.aries.specs.declared.refusal.Refusal.{Refusal}
use Rattle.aries.specs.declared.refusal.Refusal.TheVariants.{BlocksSpent, WordForm, NotListed, WrongNumber}
use Rattle.aries.specs.declared.block.Kind.{Kind}
use Rattle.aries.specs.declared.block.Instruction.{Instruction}
use Rattle.aries.specs.declared.job.Job.{Job}
use Rattle.aries.specs.declared.point.Point.{Point}
use Rattle.aries.specs.declared.reader.Setting.{Setting}
use Rattle.aries.specs.declared.reader.Setting.TheVariants.{Hundredths}
use Rattle.aries.specs.declared.setup.Program.{Program}
use Rattle.aries.specs.declared.reader.Given.{Given}
use Rattle.aries.specs.declared.state.Frame.{Frame}
use Rattle.aries.specs.declared.state.State.{State}
use Rattle.aries.specs.declared.state.Progress.{Progress}
use Rattle.aries.specs.declared.word.Word.{Word}
use Rattle.aries.specs.Outcome.{Out, ◌>>=◌, need, in_line}
use Rattle.aries.specs.Words.{LetterWord, words}
use Rattle.aries.specs.ByLetter.{by_letter}
use Rattle.aries.specs.declared.word.Words.{Words}
use Rattle.aries.specs.Forms.{in_places, kind_of, is_listed}
use Rattle.aries.specs.Numbers.{length_of, is_ranged}
use Rattle.aries.specs.Reader.{reader_at, given_of, reader_of}
use Rattle.aries.specs.Blocks.{instruction_of}
use Rattle.aries.specs.Judging.{Judging}
use Rattle.aries.specs.Macros.{may_come, Begun, begun_by, begin}
use Rattle.aries.specs.Bodies.{is_close_of, is_own_close}
use Rattle.aries.specs.Setup.{ordinary_frame, frame_at}
use Rattle.aries.specs.Program.{expand}
use Rattle.aries.specs.CopyBlocks.{Reached}

-- ---- Setting 1

-- words as those of a kind, if there is one, by document 01: 5, then 6, of the numbers as they are written; which letters G73 blocks
-- have given is said beside them
abbrev pub base_listed : Given → List LetterWord → Option Kind → Result Instruction Refusal
base_listed given ws None = Err NotListed
base_listed given ws (Some k) =
    let w : Words = by_letter ws in
    cond (in_places ws && is_listed given w k)
    (cond (is_ranged w.letters k) (Ok (instruction_of k w.measure w.letters)) (Err WrongNumber))
    (Err NotListed)

-- the words of a block by document 01
abbrev pub base_words : Given → List LetterWord → Result Instruction Refusal
base_words given ws = base_listed given ws (kind_of (by_letter ws))

-- a line by document 01: 4, and then the words
abbrev pub base_decoded : Given → Option (List LetterWord) → Result Instruction Refusal
base_decoded given None = Err WordForm
base_decoded given (Some ws) = base_words given ws

-- a block begins by document 01: 3, then 4 to 6
abbrev pub base_begin : Judging → ℕ → List ℕ → Progress → Out Begun
base_begin j line l g = do
  _ ← need (may_come j l g) BlocksSpent line
  i ← in_line line (base_decoded (given_of g.state) (words l))
  Ok (begun_by l g i)

-- At every number but 0 a text means what document 01 says: it means what it does at 1, and there each block begins and
-- each U line finds its own V line as document 01 has it. Nothing else reads a line.
pub record BaseKept : Type 0 where
  pub others : (number : ℤ) → (number ≡ pos 0 → ⊥) → (text : List ℕ) (numbers : ℕ) → expand number text numbers ≡ expand (pos 1) text numbers
  pub begins : (j : Judging) (f : Frame) (line : ℕ) (l : List ℕ) (g : Progress) → f.job.setting ≡ Hundredths → begin j f line l g ≡ base_begin j line l g
  pub closes : (given : Given) (n : ℕ) (l : List ℕ) → is_own_close (reader_at Hundredths given) n l ≡ is_close_of n (base_decoded given (words l))

-- ---- The whole text

-- Wherever a program comes, blocks are read at the setting of its job, outside bodies and in copies; in a body the frame is
-- handed on as it is.
abbrev pub SettingHolds : Type 0
SettingHolds =
    (job : Job) (text : List ℕ) (at line : ℕ) (ls : List (List ℕ)) (p : Program) → Reached job text at line ls p → (place : Point) (s : State)
    → ((reader_of (ordinary_frame p.setup) s).setting ≡ job.setting)
    × ((reader_of (frame_at (ordinary_frame p.setup) place) s).setting ≡ job.setting)

-- ---- Both settings

-- A number with a point means the same at both.
abbrev pub PointedAlike : Type 0
PointedAlike = (s : Setting) (v : Word) → v.pointed ≡ true → length_of s v ≡ v.value
