-- The entries of the tables: one test over all of them, and the laws that turn the test into the rule at each entry.
-- Assumes nothing.
use mathlib.Core.Path.{◌≡◌, refl}
use mathlib.Core.Bool.{Bool, true, ◌&&◌}
use mathlib.Core.List.{List}
use Prim.Native.Nat.{ℕ, ◌<◌, ◌≤◌}
use lib.Dec.{eqb, leb}
use lib.ListN.{length, get_or}
use borrow.Author.Tests.{eqb-true, leb-true}
use Rattle.signed.proofs.Tests.{and_left, and_right}
use Rattle.sine.specs.declared.entries.TheConstants.{DEGREE_SINES, HUNDREDTH_SINES, HUNDREDTH_COSINES}
use Rattle.sine.specs.Series.{one, degree_sine, hundredth_sine, hundredth_cosine}
use Rattle.sine.proofs.Table.{every, every-at}

-- the test of an entry: it is what the rule says of its place, and at most one
abbrev right : (ℕ → ℕ) → ℕ → ℕ → Bool
right rule k x = eqb x (rule k) && leb x one

-- so with all entries of a table
abbrev right_table : (ℕ → ℕ) → List ℕ → Bool
right_table rule xs = every (λ p. right rule p.0 p.1) xs

-- the one test, over all entries
all_right : (right_table degree_sine DEGREE_SINES && (right_table hundredth_sine HUNDREDTH_SINES && right_table hundredth_cosine HUNDREDTH_COSINES)) ≡ true
unfolding degree_sine hundredth_sine hundredth_cosine
all_right = refl

-- what the test says of an entry
pub record Entry (rule : ℕ → ℕ) (k x : ℕ) : Type 0 where
  value : x ≡ rule k
  bound : rule k ≤ one

passed : (rule : ℕ → ℕ) (k x : ℕ) → right rule k x ≡ true → Entry rule k x
passed rule k x t =
    let value : x ≡ rule k = eqb-true x (rule k) (and_left (eqb x (rule k)) (leb x one) t) in
    let bound : x ≤ one = leb-true x one (and_right (eqb x (rule k)) (leb x one) t) in
    record { value = value; bound = rw value at bound }

entry : (rule : ℕ → ℕ) (xs : List ℕ) → right_table rule xs ≡ true → (k : ℕ) → k < length xs → Entry rule k (get_or xs k 0)
entry rule xs t k h = passed rule k _ (every-at (λ p. right rule p.0 p.1) xs 0 t k h)

module _ (d : ℕ) (inside : d < 91) where
  degree-entry : Entry degree_sine d (get_or DEGREE_SINES d 0)
  degree-entry = entry degree_sine DEGREE_SINES (and_left _ _ all_right) d inside

  -- the entry of d degrees is S(d),
  pub degree_is : get_or DEGREE_SINES d 0 ≡ degree_sine d
  degree_is = degree-entry.value

  -- which is at most one
  pub degree_small : degree_sine d ≤ one
  degree_small = degree-entry.bound

module _ (h : ℕ) (inside : h < 100) where
  both : (right_table hundredth_sine HUNDREDTH_SINES && right_table hundredth_cosine HUNDREDTH_COSINES) ≡ true
  both = and_right (right_table degree_sine DEGREE_SINES) _ all_right

  sine-entry : Entry hundredth_sine h (get_or HUNDREDTH_SINES h 0)
  sine-entry = entry hundredth_sine HUNDREDTH_SINES (and_left _ _ both) h inside

  cosine-entry : Entry hundredth_cosine h (get_or HUNDREDTH_COSINES h 0)
  cosine-entry = entry hundredth_cosine HUNDREDTH_COSINES (and_right (right_table hundredth_sine HUNDREDTH_SINES) _ both) h inside

  -- the entries of h hundredths are s(h) and c(h),
  pub hundredth_sine_is : get_or HUNDREDTH_SINES h 0 ≡ hundredth_sine h
  hundredth_sine_is = sine-entry.value

  pub hundredth_cosine_is : get_or HUNDREDTH_COSINES h 0 ≡ hundredth_cosine h
  hundredth_cosine_is = cosine-entry.value

  -- neither of which is more than one
  pub hundredth_sine_small : hundredth_sine h ≤ one
  hundredth_sine_small = sine-entry.bound

  pub hundredth_cosine_small : hundredth_cosine h ≤ one
  hundredth_cosine_small = cosine-entry.bound

-- the sizes, for `of_degrees` and `of_hundredths` where they are joined
pub ruleset sizes = (degree_small, hundredth_sine_small, hundredth_cosine_small)
