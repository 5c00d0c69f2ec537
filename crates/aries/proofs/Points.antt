-- Laws of the sum of points, and things moved by a vector.
use mathlib.Core.Path.{◌≡◌, refl, sym, ap, ap₂, ◌∙◌}
use mathlib.Core.List.{List, [], ◌∷◌, ◌++◌, map}
use Prim.Native.Nat.{ℕ}
use native.Mathlib.Omega.{arith}
use lib.IntN.{ℤ, neg_ℤ, ◌+ℤ◌, +ℤ_assoc, +ℤ_comm, +ℤ_idl, +ℤ_idr, +ℤ_invl}
use Rattle.aries.specs.declared.point.Point.{Point}
use Rattle.aries.specs.declared.entry.Hit.{Hit}
use Rattle.aries.specs.declared.entry.Entry.{Entry}
use Rattle.aries.specs.Entries.{hits_in}
use Rattle.aries.specs.Moves.{point_at, zero_point, ◌⊕◌}
use Rattle.aries.specs.CopyRuns.{moved_hit, moved_by}

-- ---- Whole numbers

pub +ℤ-swap : (a b c : ℤ) → a +ℤ b +ℤ c ≡ a +ℤ c +ℤ b
+ℤ-swap a b c = simp (+ℤ_assoc, +ℤ_comm)

pub +ℤ-cancel-left : (a b c : ℤ) → a +ℤ b ≡ a +ℤ c → b ≡ c
+ℤ-cancel-left a b c e = sym (undone b) ∙ ap (λ (z : ℤ). neg_ℤ a +ℤ z) e ∙ undone c
  where
    undone : (z : ℤ) → neg_ℤ a +ℤ (a +ℤ z) ≡ z
    undone z = sym (+ℤ_assoc (neg_ℤ a) a z) ∙ ap (λ (y : ℤ). y +ℤ z) (+ℤ_invl a) ∙ +ℤ_idl z

-- ---- Points

pub ⊕-swap : (p q v : Point) → p ⊕ q ⊕ v ≡ p ⊕ v ⊕ q
⊕-swap p q v = ap₂ point_at (+ℤ-swap p.x q.x v.x) (+ℤ-swap p.y q.y v.y)

pub ⊕-assoc : (p q v : Point) → p ⊕ q ⊕ v ≡ p ⊕ (q ⊕ v)
⊕-assoc p q v = ap₂ point_at (+ℤ_assoc p.x q.x v.x) (+ℤ_assoc p.y q.y v.y)

pub zero-⊕ : (p : Point) → zero_point ⊕ p ≡ p
zero-⊕ p = ap₂ point_at (+ℤ_idl p.x) (+ℤ_idl p.y)

pub ⊕-zero : (p : Point) → p ⊕ zero_point ≡ p
⊕-zero p = ap₂ point_at (+ℤ_idr p.x) (+ℤ_idr p.y)

-- ---- Entries

moved_by-⊕ : (p v : Point) (e : Entry) → moved_by v (moved_by p e) ≡ moved_by (p ⊕ v) e
moved_by-⊕ p v (Entry.Hit h) = ap (λ (q : Point). Entry.Hit (record { place = q; tool = h.tool; nibble = h.nibble })) (⊕-assoc h.place p v)
moved_by-⊕ p v (Entry.Stop optional) = refl

pub map-moved_by-⊕ : (p v : Point) (es : List Entry) → map (moved_by v) (map (moved_by p) es) ≡ map (moved_by (p ⊕ v)) es
map-moved_by-⊕ p v [] = refl
map-moved_by-⊕ p v (e ∷ es) = ap₂ ◌∷◌ (moved_by-⊕ p v e) (map-moved_by-⊕ p v es)

-- the hits of moved entries, with more behind them, are the hits, moved, and those behind them
pub hits_moved : (v : Point) (es fs : List Entry) → hits_in (map (moved_by v) es ++ fs) ≡ map (moved_hit v) (hits_in es) ++ hits_in fs
unfolding hits_in
hits_moved v [] fs = refl
hits_moved v (Entry.Hit h ∷ es) fs = ap (λ (hs : List Hit). moved_hit v h ∷ hs) (hits_moved v es fs)
hits_moved v (Entry.Stop optional ∷ es) fs = hits_moved v es fs

-- entries without a hit are the same wherever they are moved
pub hitless_stays : (p q : Point) (es : List Entry) → hits_in es ≡ [] → map (moved_by p) es ≡ map (moved_by q) es
unfolding hits_in
hitless_stays p q [] h = refl
hitless_stays p q (Entry.Hit k ∷ es) h = let z : ◌≡◌ {A = ℕ} 0 1 = cc in absurd (omega arith)
hitless_stays p q (Entry.Stop optional ∷ es) h = ap (λ (l : List Entry). Entry.Stop optional ∷ l) (hitless_stays p q es h)
