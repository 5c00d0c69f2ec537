-- Laws of counting holes.
use Rattle.std.proofs.Common.{◌≡◌, ℕ, ◌+◌, Bool, cond, List, [], ◌∷◌, map, Option, refl, ap, ◌∙◌, arith}
use Rattle.std.specs.Option.{option_map}
use Rattle.std.specs.List.{position, position_from, fold, count_by}
use Rattle.std.proofs.lemmas.Iterator.Adapters.{position_from-zero}

module _ {A B : Type 0} (f : A → B) (p : B → Bool) where
  from_next : (i : ℕ) (xs : List A) → option_map (λ n. n + 1) (position_from (λ x. p (f x)) i xs) ≡ position_from p (i + 1) (map f xs)
  from_next i [] = refl
  from_next i (x ∷ xs) = grind (arith, from_next (i + 1) xs)

  -- the index of the first that passes, counted from 1
  pub position_from-one : (xs : List A) (found : Option ℕ) → found ≡ position (λ x. p (f x)) xs → option_map (λ n. n + 1) found ≡ position_from p 1 (map f xs)
  position_from-one xs found e = ap (option_map (λ n. n + 1)) (e ∙ position_from-zero (λ x. p (f x)) xs) ∙ from_next 0 xs

count_from : {A B : Type 0} (f : A → B) (p : B → Bool) (xs : List A) (n : ℕ) → fold (λ a x. a + cond (p (f x)) 1 0) n xs ≡ fold (λ a x. a + cond (p x) 1 0) n (map f xs)
count_from f p [] n = refl
count_from f p (x ∷ xs) n = count_from f p xs (n + cond (p (f x)) 1 0)

pub count_by-map : {A B : Type 0} (f : A → B) (p : B → Bool) (xs : List A) → count_by (λ x. p (f x)) xs ≡ count_by p (map f xs)
count_by-map f p xs = count_from f p xs 0
