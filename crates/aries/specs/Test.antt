-- Tests and their combinations.
use Rattle.std.specs.Prelude.{Bool, true, false, ◌&&◌, ◌||◌, List, [], ◌∷◌, ℕ, leb, eqb}

-- a ≤ x ≤ b
abbrev pub within : ℕ → ℕ → ℕ → Bool
within a b x = leb a x && leb x b

-- x is in the list
abbrev pub among : List ℕ → ℕ → Bool
among [] x = false
among (a ∷ rest) x = eqb x a || among rest x

-- every element passes
abbrev pub every : {A : Type 0} → (A → Bool) → List A → Bool
every f [] = true
every f (a ∷ rest) = f a && every f rest

-- some element passes
abbrev pub any_of : {A : Type 0} → (A → Bool) → List A → Bool
any_of f [] = false
any_of f (a ∷ rest) = f a || any_of f rest

-- a list has no elements
abbrev pub is_empty : {A : Type 0} → List A → Bool
is_empty [] = true
is_empty (a ∷ rest) = false
