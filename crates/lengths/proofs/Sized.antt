-- Laws of sized words: words that were read are sized.
-- Assumes nothing.
use Rattle.std.specs.Prelude.{None, Option, option_map, unwrap_or}
use mathlib.Core.List.{List}
use Prim.Native.Nat.{ℕ, ◌+◌, ◌-◌, ◌≤◌}
use native.Mathlib.Omega.{arith}
use lib.IntN.{pos, nat_abs}
use lib.ListN.{get_or}
use mathlib.Core.Path.{◌≡◌, subst}
use Rattle.aries.specs.declared.word.Word.{Word}
use Rattle.aries.specs.Letters.{index_of}
use Rattle.aries.specs.Words.{LetterWord}
use Rattle.aries.specs.ByLetter.{Letters, by_letter}
use Rattle.aries.proofs.Words.{EachWord, by_letter-each}
use Rattle.words.proofs.Gathering.{AllFormed}
use Rattle.lengths.specs.Sized.{Sized}

-- such a word
abbrev pub SizedWord : Option Word → Type 0
SizedWord o = nat_abs (unwrap_or (option_map (λ (v : Word). v.value) o) (pos 0)) ≤ 999999

-- the words of a block
pub by_letter_sized : (ws : List LetterWord) → AllFormed ws → Sized (by_letter ws).letters
by_letter_sized ws f =
    record { each = λ letter. by_letter-each SizedWord (omega arith) (λ r g. g.small) ws f (index_of letter) }

-- each, by its place
pub by_place : (w : Letters) → Sized w → EachWord SizedWord w
by_place w sized i =
    let e : i + 65 - 65 ≡ i = omega arith in
    subst (λ (j : ℕ). SizedWord (get_or w j None)) e (sized.each (i + 65))
