-- Laws of the stored bodies.
use Rattle.std.specs.Prelude.{Option, None, Some}
use mathlib.Core.Path.{◌≡◌, refl, ap, ap₂}
use mathlib.Core.List.{List}
use mathlib.Core.Logic.{◌≢◌}
use Prim.Native.Nat.{ℕ, zero, suc, ◌≤◌, ◌<◌}
use lib.ListN.{length, get_or, replicate, get_or-eq_default}
use lib.Seq.{set_out, get_or-set_other, get_or-set_same}
use Rattle.aries.specs.declared.macros.Macros.{Macros}
use Rattle.aries.specs.declared.macros.Start.{Start}
use Rattle.aries.specs.declared.macros.StoredBody.{StoredBody}
use Rattle.aries.specs.Macros.{no_macros, body_start, body_between, found_in, storing}

-- ---- Finding a body

-- under a number that no array has, and where there is no start, nothing is stored
pub found_out : (m : Macros) (n : ℕ) → length m.starts ≤ n → found_in m n ≡ None
found_out m n h = ap (λ (s : Option Start). body_between s (get_or m.ends n 0)) (get_or-eq_default m.starts None h)

-- and where there is one, what lies between it and the end
pub found_body : (m : Macros) (n : ℕ) (s : Start) → get_or m.starts n None ≡ Some s → found_in m n ≡ Some (record { start = s.offset; end = get_or m.ends n 0; line = s.line })
found_body m n s e = ap (λ (s : Option Start). body_between s (get_or m.ends n 0)) e

-- an array in which nothing is stored
empty : (many n : ℕ) → ◌≡◌ {A = Option Start} (get_or (replicate many None) n None) None
empty zero n = refl
empty (suc many) zero = refl
empty (suc many) (suc n) = empty many n

pub found_fresh : (n : ℕ) → found_in no_macros n ≡ None
found_fresh n = ap (λ (s : Option Start). body_between s (get_or no_macros.ends n 0)) (empty 90 n)

-- ---- Storing

-- what is stored under another number stays
pub found_other : (m : Macros) (n k : ℕ) (b : StoredBody) → k ≢ n → found_in (storing m n b) k ≡ found_in m k
found_other m n k b h = ap₂ body_between (get_or-set_other m.starts n k (Some (body_start b)) None h) (get_or-set_other m.ends n k b.end 0 h)

-- what is stored under a number that the arrays have
pub found_same : (m : Macros) (n : ℕ) (b : StoredBody) → n < length m.starts → n < length m.ends → found_in (storing m n b) n ≡ Some b
found_same m n b s e = ap₂ body_between (get_or-set_same m.starts n (Some (body_start b)) None s) (get_or-set_same m.ends n b.end 0 e)

-- a number that no array has
pub storing_out : (m : Macros) (n : ℕ) (b : StoredBody) → length m.starts ≤ n → length m.ends ≤ n → storing m n b ≡ m
storing_out m n b s e = ap₂ (λ (ss : List (Option Start)) (es : List ℕ). record { starts = ss; ends = es }) (set_out m.starts n (Some (body_start b)) s) (set_out m.ends n b.end e)
