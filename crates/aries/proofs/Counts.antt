-- Counts of blocks and entries: how far they go up, and whether what is added fits under the limits.
use Rattle.std.specs.Prelude.{Option, Some}
use mathlib.Core.Path.{◌≡◌, refl, ap₂, subst}
use mathlib.Core.Bool.{Bool, true, false}
use Prim.Native.Nat.{ℕ, suc, ◌+◌, ◌*◌, ◌-◌, ◌<◌, ◌≤◌}
use native.Mathlib.Omega.{arith}
use borrow.Author.Tests.{lt-ltb, ltb-true, ltb-false}
use lib.Dec.{ltb}
use Rattle.aries.specs.declared.state.Progress.{Progress}
use Rattle.aries.specs.Judging.{Judging, room}

-- ---- Counts

pub record Counts : Type 0 where
  pub blocks : ℕ
  pub entries : ℕ

abbrev pub counts : ℕ → ℕ → Counts
counts b e = record { blocks = b; entries = e }

abbrev pub counts_of : Progress → Counts
counts_of g = counts g.blocks g.entries

abbrev pub nothing : Counts
nothing = counts 0 0

abbrev pub ◌⊞◌ : Counts → Counts → Counts

infixl 60 ◌⊞◌
d ⊞ e = counts (d.blocks + e.blocks) (d.entries + e.entries)

abbrev pub times : ℕ → Counts → Counts
times k d = counts (k * d.blocks) (k * d.entries)

pub times_suc : (k : ℕ) (d : Counts) → times (suc k) d ≡ d ⊞ times k d
times_suc k d = ap₂ counts more_blocks more_entries
  where
    more_blocks : suc k * d.blocks ≡ d.blocks + k * d.blocks
    more_blocks = omega arith

    more_entries : suc k * d.entries ≡ d.entries + k * d.entries
    more_entries = omega arith

-- one more of one kind
abbrev pub another_block : Counts → Counts
another_block n = counts (n.blocks + 1) n.entries

abbrev pub another_entry : Counts → Counts
another_entry n = counts n.blocks (n.entries + 1)

abbrev pub one_block : Counts
one_block = counts 1 0

abbrev pub one_entry : Counts
one_entry = counts 0 1

-- ---- Going up

-- from n to m by d
pub record Up (n m d : Counts) : Type 0 where
  pub blocks : m.blocks ≡ n.blocks + d.blocks
  pub entries : m.entries ≡ n.entries + d.entries

pub up_nothing : (n : Counts) → Up n n nothing
up_nothing n = record { blocks = omega arith; entries = omega arith }

pub up_block : (n : Counts) → Up n (another_block n) one_block
up_block n = record { blocks = omega arith; entries = omega arith }

pub up_entry : (n : Counts) → Up n (another_entry n) one_entry
up_entry n = record { blocks = omega arith; entries = omega arith }

pub up_joined : {n m k d e : Counts} → Up n m d → Up m k e → Up n k (d ⊞ e)
up_joined u w = record { blocks = omega arith; entries = omega arith }

-- there is one way up
pub up_unique : {n m d e : Counts} → Up n m d → Up n m e → d ≡ e
up_unique {d = d} {e = e} u w = ap₂ counts same_blocks same_entries
  where
    same_blocks : d.blocks ≡ e.blocks
    same_blocks = omega arith

    same_entries : d.entries ≡ e.entries
    same_entries = omega arith

-- ---- Fitting under one limit

-- from a count on, each of so many more finds room
pub record Fits (most : Option ℕ) (count more : ℕ) : Type 0 where
  pub fits : (i : ℕ) → i < more → room most (count + i) ≡ true

fits_none : (most : Option ℕ) (count more : ℕ) → more ≡ 0 → Fits most count more
fits_none most count more e = record { fits = λ i h. absurd (omega arith) }

fits_one : (most : Option ℕ) (count : ℕ) → room most count ≡ true → Fits most count 1
fits_one most count r = record { fits = λ i h. subst (λ (k : ℕ). room most k ≡ true) (same i h) r }
  where
    same : (i : ℕ) → i < 1 → count ≡ count + i
    same i h = omega arith

fits-first : (most : Option ℕ) (count more : ℕ) → 0 < more → Fits most count more → room most count ≡ true
fits-first most count more h f = subst (λ (k : ℕ). room most k ≡ true) same (f.fits 0 h)
  where
    same : count + 0 ≡ count
    same = omega arith

fits_front : (most : Option ℕ) (count a b : ℕ) → Fits most count (a + b) → Fits most count a
fits_front most count a b f = record { fits = λ i h. f.fits i (omega arith) }

fits_back : (most : Option ℕ) (count a b later : ℕ) → later ≡ count + a → Fits most count (a + b) → Fits most later b
fits_back most count a b later e f =
    record { fits = λ i h. subst (λ (k : ℕ). room most k ≡ true) (same i) (f.fits (a + i) (omega arith)) }
  where
    same : (i : ℕ) → count + (a + i) ≡ later + i
    same i = omega arith

fits-joined : (most : Option ℕ) (count a b later : ℕ) → later ≡ count + a → Fits most count a → Fits most later b → Fits most count (a + b)
fits-joined most count a b later e f g = record { fits = λ i h. go i h (ltb i a) refl }
  where
    same : (i : ℕ) → a ≤ i → later + (i - a) ≡ count + i
    same i h = omega arith

    go : (i : ℕ) → i < a + b → (t : Bool) → ltb i a ≡ t → room most (count + i) ≡ true
    go i h true p = f.fits i (ltb-true i a p)
    go i h false p =
        let n : a ≤ i = ltb-false i a p in
        subst (λ (k : ℕ). room most k ≡ true) (same i n) (g.fits (i - a) (omega arith))

-- with as many free, as many fit
pub fits-free :
    (most most' count count' more : ℕ) → most - count ≡ most' - count' → Fits (Some most) count more → Fits (Some most') count' more
fits-free most most' count count' more e f =
    record { fits = λ i h. lt-ltb (count' + i) most' (let l = ltb-true (count + i) most (f.fits i h) in omega arith) }

-- ---- Fitting under both

-- from n on, d more blocks and entries fit under the limits
pub record Fit (j : Judging) (n d : Counts) : Type 0 where
  pub blocks : Fits j.blocks n.blocks d.blocks
  pub entries : Fits j.places n.entries d.entries

module _ {j : Judging} {n : Counts} where
  pub fit_nothing : {d : Counts} → d.blocks ≡ 0 → d.entries ≡ 0 → Fit j n d
  fit_nothing p q = record { blocks = fits_none _ _ _ p; entries = fits_none _ _ _ q }

  pub fit_block : room j.blocks n.blocks ≡ true → Fit j n one_block
  fit_block r = record { blocks = fits_one _ _ r; entries = fits_none _ _ _ refl }

  pub fit_entry : room j.places n.entries ≡ true → Fit j n one_entry
  fit_entry r = record { blocks = fits_none _ _ _ refl; entries = fits_one _ _ r }

  pub block-fits : (d : Counts) → Fit j n (one_block ⊞ d) → room j.blocks n.blocks ≡ true
  block-fits d f = fits-first _ _ (1 + d.blocks) (omega arith) f.blocks

  pub entry_fits : Fit j n one_entry → room j.places n.entries ≡ true
  entry_fits f = fits-first _ _ 1 (omega arith) f.entries

  pub fit_front : (d e : Counts) → Fit j n (d ⊞ e) → Fit j n d
  fit_front d e f = record { blocks = fits_front _ _ _ _ f.blocks; entries = fits_front _ _ _ _ f.entries }

  pub fit_back : {m : Counts} (d e : Counts) → Up n m d → Fit j n (d ⊞ e) → Fit j m e
  fit_back d e u f = record { blocks = fits_back _ _ _ _ _ u.blocks f.blocks; entries = fits_back _ _ _ _ _ u.entries f.entries }

  pub fit_joined : {m : Counts} (d e : Counts) → Up n m d → Fit j n d → Fit j m e → Fit j n (d ⊞ e)
  fit_joined d e u f g =
      record { blocks = fits-joined _ _ _ _ _ u.blocks f.blocks g.blocks; entries = fits-joined _ _ _ _ _ u.entries f.entries g.entries }
