-- A rule holds at each entry of a table where one test over all its entries holds.
-- Assumes nothing.
use mathlib.Core.Path.{◌≡◌, refl, ap, ◌∙◌}
use mathlib.Core.Bool.{Bool, true, false}
use mathlib.Core.List.{List}
use Prim.Native.Nat.{ℕ, ◌<◌}
use native.Mathlib.Nat.{zero-add}
use lib.ListN.{length, get_or}
use Rattle.std.specs.List.{list_all, enumerate_from}
use Rattle.std.proofs.lemmas.List.Folds.{list_all_at}
use Rattle.std.proofs.lemmas.List.FromFn.{get_or-enumerate_from, length-enumerate_from}

module _ {A : Type 0} (test : ℕ × A → Bool) where
  -- the test holds of each entry with its place
  abbrev pub every : List A → Bool
  every xs = list_all test (enumerate_from 0 xs)

  -- so it holds at place k
  pub every-at : (xs : List A) (d : A) → every xs ≡ true → (k : ℕ) → k < length xs → test (k, get_or xs k d) ≡ true
  every-at xs d e k h = go (test (k, get_or xs k d)) refl
    where
      inside : k < length (enumerate_from 0 xs)
      inside = rw (length-enumerate_from 0 xs) h

      here : get_or (enumerate_from 0 xs) k (0, d) ≡ (k, get_or xs k d)
      here = get_or-enumerate_from 0 xs k (0, d) h ∙ ap (λ (n : ℕ). (n, get_or xs k d)) (zero-add k)

      go : (b : Bool) → test (k, get_or xs k d) ≡ b → b ≡ true
      go true q = refl
      go false q = let none = list_all_at test (enumerate_from 0 xs) k (0, d) inside (ap test here ∙ q) in cc
