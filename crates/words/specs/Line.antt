-- The words of a line as the code keeps them: by letter, with what is told of them in their order.
use Rattle.std.specs.Prelude.{Bool, true, not, cond, ◌&&◌, ◌||◌, List, [], ◌∷◌, ℕ, ◌+◌, eqb, take, Result, Ok, Err, is_some}
use Rattle.aries.specs.declared.word.Word.{Word}
use Rattle.aries.specs.Letters.{letter_a, letter_g, letter_n}
use Rattle.aries.specs.Test.{among, is_empty}
use Rattle.aries.specs.Words.{LetterWord, formed_words, size_of, words}
use Rattle.aries.specs.ByLetter.{has, is_plain, is_measure, added, by_letter}
use Rattle.aries.specs.Forms.{is_pattern_code, in_places}
use Rattle.text.specs.Lines.{line_length}
use Rattle.words.specs.declared.Line.{Line}
use Rattle.words.specs.declared.Malformed.{Malformed}

-- the bytes up to the first line feed, or all
abbrev pub first_line : List ℕ → List ℕ
first_line bs = take (line_length bs) bs

-- how many words there are besides N and G
abbrev pub others_in : List LetterWord → ℕ
others_in [] = 0
others_in (r ∷ rs) = cond (among (letter_n ∷ letter_g ∷ []) r.letter) 0 1 + others_in rs

-- words in their order
unfoldable pub line_of : List LetterWord → Line
line_of ws = record { words = by_letter ws; others = others_in ws; begun = not (is_empty ws); misplaced = not (in_places ws) }

-- a word that comes behind those of a line is out of its place: a second G90 or G91; another G beside a code, or with a sign or
-- a point; N behind any word; a letter that stands already, and A behind the code of a pattern
abbrev pub is_out_of_place : Line → ℕ → Word → Bool
is_out_of_place l letter v =
    cond (eqb letter letter_g)
    (cond (is_measure v) (is_some l.words.measure) (is_some l.words.code || not (is_plain v)))
    (cond (eqb letter letter_n)
    l.begun
    (has l.words.letters letter || (eqb letter letter_a && is_pattern_code l.words.code)))

-- a line with a word more
abbrev pub with_word : Line → ℕ → Word → Line
with_word l letter v =
    record {
      words = added l.words letter v;
      others = l.others + cond (among (letter_n ∷ letter_g ∷ []) letter) 0 1;
      begun = true;
      misplaced = l.misplaced || is_out_of_place l letter v;
    }

-- where a line ends, or its first word that has not the form starts
abbrev pub ended : ℕ → List ℕ → Result ℕ Malformed
ended from line =
    let place : ℕ = from + size_of (formed_words line) in
    cond (is_some (words line)) (Ok place) (Err (record { at = place }))
