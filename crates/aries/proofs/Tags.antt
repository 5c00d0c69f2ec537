-- The tags of an enum's variants.
use mathlib.Core.Bool.{cond}
use mathlib.Core.List.{List, [], ◌∷◌, ◌++◌}
use Prim.Native.Nat.{ℕ, zero, suc}
use lib.Dec.{eqb}

-- the tags of so many variants, but for one
abbrev pub others : ℕ → ℕ → List ℕ
others tag zero = []
others tag (suc n) = others tag n ++ cond (eqb n tag) [] (n ∷ [])
