-- At setting 1 words are in hundredths as they are written, so that it is document 01; and a text has one setting.
use Rattle.std.specs.Prelude.{Option, Some, None, option_map}
use mathlib.Core.Path.{◌≡◌, refl, ap, ◌∙◌}
use mathlib.Core.Bool.{Bool, true, false, cond}
use mathlib.Core.List.{List, [], ◌∷◌}
use Prim.Native.Nat.{ℕ}
use lib.IntN.{ℤ, pos}
use lib.ListN.{set}
use lib.Seq.{set-get_or}
use Rattle.signed.specs.Signed.{eq_z}
use Rattle.signed.proofs.Tests.{eq_z_true}
use Rattle.aries.specs.declared.reader.Given.{Given}
use Rattle.aries.specs.declared.block.Kind.{Kind}
use Rattle.aries.specs.declared.job.Job.{Job}
use Rattle.aries.specs.declared.reader.Setting.TheVariants.{Hundredths, Millimetres}
use Rattle.aries.specs.declared.state.Frame.{Frame}
use Rattle.aries.specs.declared.state.Progress.{Progress}
use Rattle.aries.specs.declared.word.Word.{Word}
use Rattle.aries.specs.Letters.{index_of}
use Rattle.aries.specs.Text.{bytes}
use Rattle.aries.specs.Words.{LetterWord, words}
use Rattle.aries.specs.ByLetter.{Letters, at, by_letter}
use Rattle.aries.specs.Forms.{kind_of}
use Rattle.aries.specs.Numbers.{length_of, with_value, lengths_of, word_in_hundredths, letters_in_hundredths, in_hundredths, lengths_fit}
use Rattle.aries.specs.Reader.{setting_of, reader_at, given_of}
use Rattle.aries.specs.Blocks.{listed_as, decode_words, decoded, decode}
use Rattle.aries.specs.Judging.{Judging}
use Rattle.aries.specs.Macros.{begin}
use Rattle.aries.specs.Bodies.{is_close_of, is_own_close}
use Rattle.aries.specs.Program.{expand}
use Rattle.aries.specs.Settings.{base_listed, base_words, base_decoded, base_begin, BaseKept, SettingHolds, PointedAlike}
use Rattle.aries.proofs.CopyBlocks.{reached_ordinary}

-- ---- Words in hundredths

-- a number with a point has hundredths
pub pointed_alike : PointedAlike
unfolding length_of
pointed_alike s v e = simp e

-- at setting 1 a length is what is written,
pub length-written : (v : Word) → length_of Hundredths v ≡ v.value
unfolding length_of
length-written v = go v.pointed
  where
    go : (t : Bool) → cond t v.value v.value ≡ v.value
    go true = refl
    go false = refl

word-written : (o : Option Word) → option_map (word_in_hundredths Hundredths) o ≡ o
word-written None = refl
word-written (Some v) = ap (λ (z : ℤ). Some (with_value v z)) (length-written v)

-- and so are all words
letters-written : (ls : List ℕ) (w : Letters) → letters_in_hundredths Hundredths w ls ≡ w
letters-written [] w = refl
letters-written (l ∷ ls) w =
    letters-written ls (set w (index_of l) (option_map (word_in_hundredths Hundredths) (at w l)))
    ∙ ap (set w (index_of l)) (word-written (at w l))
    ∙ set-get_or w (index_of l) None

pub hundredths-written : (k : Kind) (w : Letters) → in_hundredths Hundredths k w ≡ w
unfolding in_hundredths
hundredths-written k w = letters-written (bytes (lengths_of k)) w

-- ---- Setting 1

others-alike : (number : ℤ) → (number ≡ pos 0 → ⊥) → setting_of number ≡ Hundredths
others-alike number h = go (eq_z number (pos 0)) refl
  where
    go : (t : Bool) → eq_z number (pos 0) ≡ t → cond t Millimetres Hundredths ≡ Hundredths
    go true e = absurd (h (eq_z_true number (pos 0) e))
    go false e = refl

words-written : (given : Given) (ws : List LetterWord) → decode_words (reader_at Hundredths given) ws ≡ base_words given ws
unfolding decode_words lengths_fit
words-written given ws = go (kind_of (by_letter ws))
  where
    go : (o : Option Kind) → listed_as (reader_at Hundredths given) ws o ≡ base_listed given ws o
    go None = refl
    go (Some k) = rw (hundredths-written k (by_letter ws).letters)

-- a line at setting 1
decoded-written : (given : Given) (l : List ℕ) → decode (reader_at Hundredths given) l ≡ base_decoded given (words l)
unfolding decode
decoded-written given l = go (words l)
  where
    go : (o : Option (List LetterWord)) → decoded (reader_at Hundredths given) o ≡ base_decoded given o
    go None = refl
    go (Some ws) = words-written given ws

begins-written :
    (j : Judging) (f : Frame) (line : ℕ) (l : List ℕ) (g : Progress) → f.job.setting ≡ Hundredths → begin j f line l g ≡ base_begin j line l g
unfolding begin
begins-written j f line l g e = rw (e, decoded-written (given_of g.state) l)

pub base_kept : BaseKept
unfolding expand is_own_close
base_kept =
    record {
      others = λ number h text numbers. rw (others-alike number h);
      begins = begins-written;
      closes = λ given n l. ap (is_close_of n) (decoded-written given l);
    }

-- ---- The whole text

pub setting_holds : SettingHolds
setting_holds job text at line ls p r place s =
    let held = ap (λ (j : Job). j.setting) (reached_ordinary job text at line ls p r).1 in
    (held, held)
