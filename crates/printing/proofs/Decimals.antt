-- Laws of decimal digits: the last one comes after those of the tenth part, and there are few; a word of 64 bits has those that the
-- library writes. Assumes nothing.
use Rattle.std.proofs.Common.{Bool, true, false, ltb, FitsSigned, w32, ◌≡◌, refl, sym, ap, ◌∙◌, List, [], ◌∷◌, ◌++◌, ℕ, zero, suc, ◌+◌, ◌/◌, ◌%◌, ◌^◌, ◌≤◌, ◌<◌, ℤ, pos, negsuc, length, arith}
use Rattle.std.proofs.lemmas.Fmt.{decimal_by_steps}
use Rattle.std.proofs.lemmas.List.{length-append}
use Rattle.std.specs.Fmt as written
use borrow.Author.Tests.{lt-ltb, le-ltb, ltb-true, ltb-false}
use Rattle.printing.specs.Decimals.{digit, digits, decimal, signed_decimal}

digits-one : (k n : ℕ) → n < 10 → digits k n ≡ digit n ∷ []
unfolding digits
digits-one zero n h = refl
digits-one (suc k) n h = rw (lt-ltb n 10 h, digits)

digits_more : (k n : ℕ) → 10 ≤ n → digits (suc k) n ≡ digits k (n / 10) ++ (digit (n % 10) ∷ [])
unfolding digits
digits_more k n h = rw (le-ltb n 10 h, digits)

-- as many steps as the number says are enough, and more change nothing
digits-enough : (k j n : ℕ) → n ≤ k → n ≤ j → digits k n ≡ digits j n
digits-enough zero j n h i = let z : n < 10 = omega arith in digits-one zero n z ∙ sym (digits-one j n z)
digits-enough (suc k) zero n h i = let z : n < 10 = omega arith in digits-one (suc k) n z ∙ sym (digits-one zero n z)
digits-enough (suc k) (suc j) n h i = go (ltb n 10) refl (digits-enough k j (n / 10))
  where
    go :
        (t : Bool) → ltb n 10 ≡ t → (n / 10 ≤ k → n / 10 ≤ j → digits k (n / 10) ≡ digits j (n / 10))
        → digits (suc k) n ≡ digits (suc j) n
    go true e rest = let z = ltb-true n 10 e in digits-one (suc k) n z ∙ sym (digits-one (suc j) n z)
    go false e rest =
        let z = ltb-false n 10 e in
        digits_more k n z
        ∙ ap (λ (d : List ℕ). d ++ (digit (n % 10) ∷ [])) (rest (omega arith) (omega arith))
        ∙ sym (digits_more j n z)

-- the digits of a number, by any such count of steps
Enough : ℕ → List ℕ → Type 0
Enough n ds = (k : ℕ) → n ≤ k → digits k n ≡ ds

enough_more : (n : ℕ) (ds : List ℕ) → 10 ≤ n → Enough (n / 10) ds → Enough n (ds ++ (digit (n % 10) ∷ []))
unfolding Enough
enough_more n ds h e zero i = absurd (omega arith)
enough_more n ds h e (suc k) i = digits_more k n h ∙ ap (λ (d : List ℕ). d ++ (digit (n % 10) ∷ [])) (e k (omega arith))

-- a word of 64 bits has the digits that the library writes
pub written_so : (n : ℕ) → n < 2 ^ 64 → decimal n ≡ written.decimal n
unfolding decimal Enough
written_so n small = decimal_by_steps Enough (λ n h k i. digits-one k n h) enough_more n small n (omega arith)

pub decimal_one : (n : ℕ) → n < 10 → decimal n ≡ digit n ∷ []
unfolding decimal
decimal_one n h = digits-one n n h

-- a number below ten is its last digit
pub decimal_last : (n : ℕ) → n < 10 → decimal n ≡ digit (n % 10) ∷ []
decimal_last n h =
    let e : n ≡ n % 10 = omega arith in
    decimal_one n h ∙ ap (λ d. digit d ∷ []) e

-- the last digit comes after those of the tenth part
pub decimal_more : (n : ℕ) → 10 ≤ n → decimal n ≡ decimal (n / 10) ++ (digit (n % 10) ∷ [])
unfolding decimal
decimal_more zero h = absurd (omega arith)
decimal_more (suc k) h =
    digits_more k (suc k) h
    ∙ ap (λ (d : List ℕ). d ++ (digit (suc k % 10) ∷ [])) (digits-enough k (suc k / 10) (suc k / 10) (omega arith) (omega arith))

-- ---- how many

-- one more than its tenth part has
pub length_more : (n : ℕ) → 10 ≤ n → n < 2 ^ 64 → length (decimal n) ≡ length (decimal (n / 10)) + 1
length_more n h small = ap length (decimal_more n h) ∙ length-append (decimal (n / 10)) (digit (n % 10) ∷ [])

-- there is one at least
digits-some : (k n : ℕ) → 1 ≤ length (digits k n)
unfolding digits
digits-some zero n = omega arith
digits-some (suc k) n = go (ltb n 10)
  where
    go : (t : Bool) → 1 ≤ length (elim t as (λ _. List ℕ) [ true ↦ digit n ∷ [] | false ↦ digits k (n / 10) ++ (digit (n % 10) ∷ []) ])
    go true = omega arith
    go false = omega (arith, length-append (digits k (n / 10)) (digit (n % 10) ∷ []))

pub decimal-some : (n : ℕ) → 1 ≤ length (decimal n)
unfolding decimal
decimal-some n = digits-some n n

-- and so of a word of 64 bits
pub decimal_some : (n : ℕ) → n < 2 ^ 64 → 0 < length (decimal n)
decimal_some n h = decimal-some n

-- below a power of ten, no more digits than the power says
pub decimal-short : (k n : ℕ) → n < 10 ^ suc k → length (decimal n) ≤ suc k
decimal-short zero n h = rw (decimal_one n (omega arith)) (omega arith)
decimal-short (suc k) n h = go (ltb n 10) refl (decimal-short k (n / 10))
  where
    go :
        (t : Bool) → ltb n 10 ≡ t → (n / 10 < 10 ^ suc k → length (decimal (n / 10)) ≤ suc k)
        → length (decimal n) ≤ suc (suc k)
    go true e rest = rw (decimal_one n (ltb-true n 10 e)) (omega arith)
    go false e rest =
        let d : n / 10 < 10 ^ suc k = omega arith in
        rw (decimal_more n (ltb-false n 10 e)) (simp length-append (omega (arith, rest d)))

-- a word of 64 bits has at most 20 digits
pub decimal_word : (n : ℕ) → n < 2 ^ 64 → length (decimal n) ≤ 20
decimal_word n h = decimal-short 19 n (omega arith)

-- a tool has at most two digits
pub decimal_tool : (n : ℕ) → n < 100 → length (decimal n) ≤ 2
decimal_tool n h = decimal-short 1 n (omega arith)

-- a word of 32 bits has at most ten digits and a minus
pub signed_word : (a : ℤ) → FitsSigned w32 a → length (signed_decimal a) ≤ 11
unfolding signed_decimal
signed_word (pos n) f = omega (arith, decimal-short 9 n)
signed_word (negsuc n) f = omega (arith, decimal-short 9 (suc n))
