-- Laws of lists joined for m, m + 1, .. in turn.
use mathlib.Core.Path.{◌≡◌, refl, ap, ap₂, ◌∙◌, subst}
use mathlib.Core.List.{List, ◌++◌, map, map-append, append_cancel_left}
use Prim.Native.Nat.{ℕ, zero, suc, ◌+◌, ◌<◌, ◌≤◌}
use native.Mathlib.Omega.{arith}
use Rattle.aries.specs.CopyRuns.{joined}

-- two functions that agree on the range join alike
pub joined_cong : {A : Type 0} (f g : ℕ → List A) (n m : ℕ) → ((i : ℕ) → m ≤ i → i < m + n → f i ≡ g i) → joined f n m ≡ joined g n m
unfolding joined
joined_cong f g zero m e = refl
joined_cong f g (suc n) m e = ap₂ ◌++◌ (e m (omega arith) (omega arith)) (joined_cong f g n (suc m) (λ i a b. e i (omega arith) (omega arith)))

pub map-joined : {A B : Type 0} (u : A → B) (f : ℕ → List A) (n m : ℕ) → map u (joined f n m) ≡ joined (λ i. map u (f i)) n m
unfolding joined
map-joined u f zero m = refl
map-joined u f (suc n) m = map-append u (f m) (joined f n (suc m)) ∙ ap (λ (l : List _). map u (f m) ++ l) (map-joined u f n (suc m))

-- two equal joins whose first lists are equal, of two lists at least: what is left from the second lists on
pub joined-second :
    {A : Type 0} (f g : ℕ → List A) (n m : ℕ) → n ≡ suc (suc m) → f 0 ≡ g 0 → joined f n 0 ≡ joined g n 0
    → f 1 ++ joined f m 2 ≡ g 1 ++ joined g m 2
unfolding joined
joined-second f g n m e z h =
    let k : f 0 ++ (f 1 ++ joined f m 2) ≡ g 0 ++ (g 1 ++ joined g m 2) = subst (λ (i : ℕ). joined f i 0 ≡ joined g i 0) e h in
    append_cancel_left (g 0) _ _ (rw z at k)
