-- The letters of a block against those of its kind, as the code tells them: by counting.
use Rattle.std.specs.Prelude.{Bool, not, cond, ◌&&◌, ◌||◌, List, [], ◌∷◌, ℕ, ◌+◌, leb, eqb, length}
use Rattle.aries.specs.declared.reader.Given.{Given}
use Rattle.aries.specs.declared.block.Kind.{Kind}
use Rattle.aries.specs.Test.{is_empty}
use Rattle.aries.specs.Text.{bytes}
use Rattle.aries.specs.ByLetter.{Letters, has}
use Rattle.aries.specs.Forms.{Form, form_of, beside_fits, kind_fits}
use Rattle.words.specs.declared.Line.{Line}

-- how many letters pass a test
abbrev pub passing : (ℕ → Bool) → List ℕ → ℕ
passing t [] = 0
passing t (l ∷ ls) = cond (t l) 1 0 + passing t ls

-- how many of the letters stand in a block
abbrev pub present : Letters → List ℕ → ℕ
present w ls = passing (has w) ls

-- one of the letters at least
abbrev pub one_counted : Letters → List ℕ → Bool
one_counted w ls = is_empty ls || leb 1 (present w ls)

-- All that must stand there does, one of those of which one must, and the words besides N and G are as many as the listed
-- letters among them: where no letter stands twice there are no others.
unfoldable pub counts_fit : Line → List ℕ → List ℕ → List ℕ → Bool
counts_fit l must one_of may =
    let w : Letters = l.words.letters in
    eqb (present w must) (length must)
    && (one_counted w one_of && eqb l.others (present w must + (present w one_of + present w may)))

abbrev pub form_counts : Line → Form → Bool
form_counts l f = counts_fit l (bytes f.must) (bytes f.one_of) (bytes f.may)

-- a block of a kind has the letters of that kind, each in its place, where G73 blocks have given X and Y or not
unfoldable pub is_counted : Given → Line → Kind → Bool
is_counted given l k =
    not l.misplaced
    && (kind_fits given l.words.letters k && (beside_fits l.words.measure (form_of k).beside && form_counts l (form_of k)))
