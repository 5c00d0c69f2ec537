-- Demand 3: the entries by G75 and by G76 are equal exactly when the layout is a single row or a single column, both pitches
-- are zero, or the part makes no hit. If: the places of the two orders agree (`Lanes`). Only if: with two rows, two columns
-- and a hit, the first copies agree, and the first hits of the second ones are apart unless both pitches are zero.
use mathlib.Core.Path.{◌≡◌, refl, sym, ap, ap₂, ◌∙◌}
use mathlib.Core.Bool.{Bool, true, false}
use mathlib.Core.List.{List, [], ◌∷◌, ◌++◌, map, head-eq_of_cons-eq}
use Prim.Native.Nat.{ℕ, zero, suc, ◌*◌, ◌-◌, ◌<◌}
use native.Mathlib.Nat.{mul-zero}
use native.Mathlib.Omega.{arith}
use lib.IntN.{pos}
use Rattle.aries.specs.declared.point.Point.{Point}
use Rattle.aries.specs.declared.block.Layout.{Layout}
use Rattle.aries.specs.declared.entry.Hit.{Hit}
use Rattle.aries.specs.declared.entry.Entry.{Entry}
use Rattle.aries.specs.Entries.{hits_in}
use Rattle.aries.specs.Lanes.{lane, along, column_of, row_of}
use Rattle.aries.specs.Layouts.{copy_count, from_right, from_top, facing, place_at, copy_place}
use Rattle.aries.specs.CopyRuns.{run, entries_of, own_entries, moved_hit, moved_by, joined, Alike, single_row, single_column, no_pitch, hitless, EqualExactlyWhen}
use Rattle.aries.proofs.Points.{+ℤ-cancel-left, hits_moved, hitless_stays}
use Rattle.aries.proofs.Joined.{joined_cong, joined-second}
use Rattle.aries.proofs.Lanes.{lane_first, along-first, lane-single, along-single}
use Rattle.aries.proofs.Counts.{counts_of}
use Rattle.aries.proofs.Parts.{same-part, parts-turned}
use Rattle.aries.proofs.CopyRuns.{run-entries}

-- ---- Places

module _ (origin : Point) (l : Layout) (q : ℕ) where
  -- the place of copy m in one order
  place_in : Bool → ℕ → Point
  place_in vertical m = place_at origin l q (column_of vertical l.steps m) (row_of vertical l.steps m)

  in_a_row : l.steps.y ≡ 0 → (m : ℕ) → m < copy_count l → place_in false m ≡ place_in true m
  unfolding place_in
  in_a_row e m h =
      let k : m < suc l.steps.x = let h' = rw e at h in omega arith in
      ap₂ (place_at origin l q)
      (along-first l.steps.x m k ∙ sym (ap (λ (w : ℕ). lane w m) e ∙ lane-single m))
      (lane_first l.steps.x m k ∙ sym (ap (λ (w : ℕ). along w m) e ∙ along-single m))

  in_a_column : l.steps.x ≡ 0 → (m : ℕ) → m < copy_count l → place_in false m ≡ place_in true m
  unfolding place_in
  in_a_column e m h =
      let k : m < suc l.steps.y = let h' = rw e at h in omega arith in
      ap₂ (place_at origin l q)
      ((ap (λ (w : ℕ). along w m) e ∙ along-single m) ∙ sym (lane_first l.steps.y m k))
      ((ap (λ (w : ℕ). lane w m) e ∙ lane-single m) ∙ sym (along-first l.steps.y m k))

  -- without pitches there is one place
  in_one_place : l.pitch.x ≡ 0 → l.pitch.y ≡ 0 → (c r c' r' : ℕ) → place_at origin l q c r ≡ place_at origin l q c' r'
  in_one_place e f c r c' r' = simp (e, f, mul-zero)

-- ---- The second copies

facing_apart : (far : Bool) (n pitch : ℕ) → facing far (suc n) 1 * pitch ≡ facing far (suc n) 0 * pitch → pitch ≡ 0
facing_apart true n pitch e =
    let a : suc n - 1 ≡ n = omega arith in
    let b : suc n - 0 ≡ suc n = omega arith in
    let e' : n * pitch ≡ suc n * pitch = rw (a, b) at e in
    omega arith
facing_apart false n pitch e = omega arith

pos_injective : (m n : ℕ) → pos m ≡ pos n → m ≡ n
pos_injective m n e = cc

-- a hit at the places beside and above the first one is the same only without pitches
hits_apart : (origin : Point) (l : Layout) (q : ℕ) (h : Hit) {a b : ℕ} → l.steps.x ≡ suc a → l.steps.y ≡ suc b
    → moved_hit (place_at origin l q 1 0) h ≡ moved_hit (place_at origin l q 0 1) h → (l.pitch.x ≡ 0) × (l.pitch.y ≡ 0)
hits_apart origin l q h {a} {b} ex ey e = (facing_apart (from_right q) a l.pitch.x across, facing_apart (from_top q) b l.pitch.y (sym up))
  where
    across : facing (from_right q) (suc a) 1 * l.pitch.x ≡ facing (from_right q) (suc a) 0 * l.pitch.x
    across = rw ex at (pos_injective _ _ (+ℤ-cancel-left origin.x _ _ (+ℤ-cancel-left h.place.x _ _ (ap (λ (k : Hit). k.place.x) e))))

    up : facing (from_top q) (suc b) 0 * l.pitch.y ≡ facing (from_top q) (suc b) 1 * l.pitch.y
    up = rw ey at (pos_injective _ _ (+ℤ-cancel-left origin.y _ _ (+ℤ-cancel-left h.place.y _ _ (ap (λ (k : Hit). k.place.y) e))))

-- ---- The two lists

module _ (origin : Point) (l : Layout) (q : ℕ) (own : List Entry) where
  -- copy m in one order
  copy_in : Bool → ℕ → List Entry
  unfolding place_in
  copy_in vertical m = map (moved_by (place_in origin l q vertical m)) own

  abbrev all_in : Bool → List Entry
  all_in vertical = joined (copy_in vertical) (copy_count l) 0

  by_places : ((m : ℕ) → m < copy_count l → place_in origin l q false m ≡ place_in origin l q true m) → all_in false ≡ all_in true
  unfolding copy_in
  by_places h = joined_cong _ _ (copy_count l) 0 (λ m _ k. ap (λ (p : Point). map (moved_by p) own) (h m (omega arith)))

  equal_pitches :
      {a b : ℕ} {h : Hit} {t : List Hit} → l.steps.x ≡ suc a → l.steps.y ≡ suc b → hits_in own ≡ h ∷ t → all_in false ≡ all_in true
      → (l.pitch.x ≡ 0) × (l.pitch.y ≡ 0)
  unfolding copy_in
  equal_pitches {a} {b} {h} {t} ex ey eo e = hits_apart origin l q h ex ey beside
    where
      at : Bool → ℕ → Point
      at = place_in origin l q

      same_first : copy_in false 0 ≡ copy_in true 0
      same_first =
          ap (λ (p : Point). map (moved_by p) own)
          (ap₂ (place_at origin l q)
          (along-first l.steps.x 0 (omega arith) ∙ sym (lane_first l.steps.y 0 (omega arith)))
          (lane_first l.steps.x 0 (omega arith) ∙ sym (along-first l.steps.y 0 (omega arith))))

      two : copy_count l ≡ suc (suc (copy_count l - 2))
      two = omega arith

      -- from the second copy on
      from_second : Bool → List Entry
      from_second vertical = map (moved_by (at vertical 1)) own ++ joined (copy_in vertical) (copy_count l - 2) 2

      hits_from_second : (vertical : Bool) → hits_in (from_second vertical) ≡ map (moved_hit (at vertical 1)) (h ∷ t) ++ hits_in (joined (copy_in vertical) (copy_count l - 2) 2)
      hits_from_second vertical =
          hits_moved (at vertical 1) own (joined (copy_in vertical) (copy_count l - 2) 2)
          ∙ ap (λ (hs : List Hit). map (moved_hit (at vertical 1)) hs ++ hits_in (joined (copy_in vertical) (copy_count l - 2) 2)) eo

      heads : moved_hit (at false 1) h ≡ moved_hit (at true 1) h
      heads =
          head-eq_of_cons-eq
          (sym (hits_from_second false)
          ∙ ap hits_in (joined-second (copy_in false) (copy_in true) (copy_count l) (copy_count l - 2) two same_first e)
          ∙ hits_from_second true)

      beside : moved_hit (place_at origin l q 1 0) h ≡ moved_hit (place_at origin l q 0 1) h
      beside =
          ap (λ (p : Point). moved_hit p h) (sym (ap₂ (place_at origin l q) (along-first l.steps.x 1 (omega arith)) (lane_first l.steps.x 1 (omega arith))))
          ∙ heads
          ∙ ap (λ (p : Point). moved_hit p h) (ap₂ (place_at origin l q) (lane_first l.steps.y 1 (omega arith)) (along-first l.steps.y 1 (omega arith)))

  equal-alike : all_in false ≡ all_in true → Alike l own
  equal-alike e = go (hits_in own) l.steps.x l.steps.y refl refl refl
    where
      go : (hs : List Hit) (x y : ℕ) → hits_in own ≡ hs → l.steps.x ≡ x → l.steps.y ≡ y → Alike l own
      go [] x y eo ex ey = hitless eo
      go (h ∷ t) zero y eo ex ey = single_column ex
      go (h ∷ t) (suc a) zero eo ex ey = single_row ey
      go (h ∷ t) (suc a) (suc b) eo ex ey = let p = equal_pitches ex ey eo e in no_pitch p.0 p.1

  alike-equal : Alike l own → all_in false ≡ all_in true
  unfolding copy_in
  alike-equal (single_row e) = by_places (in_a_row origin l q e)
  alike-equal (single_column e) = by_places (in_a_column origin l q e)
  alike-equal (no_pitch e f) = by_places (λ m h. in_one_place origin l q e f _ _ _ _)
  alike-equal (hitless e) = joined_cong _ _ (copy_count l) 0 (λ m _ _. hitless_stays (place_in origin l q false m) (place_in origin l q true m) own e)

-- ---- The statement

pub equal_exactly_when : EqualExactlyWhen
unfolding run copy_place copy_in place_in own_entries
equal_exactly_when c d l r s (m, e) (m', e') =
    (λ h. equal-alike c.setup.origin l c.corner (own_entries c) (sym g75 ∙ h ∙ g76), λ a. g75 ∙ alike-equal c.setup.origin l c.corner (own_entries c) a ∙ sym g76)
  where
    g75 : entries_of (run false c) ≡ all_in c.setup.origin l c.corner (own_entries c) false
    g75 = run-entries false c m e c (same-part c) (counts_of c.before) l s

    g76 : entries_of (run true d) ≡ all_in c.setup.origin l c.corner (own_entries c) true
    g76 =
        run-entries true d m' e' c (parts-turned r.parts) (counts_of c.before) l (sym r.sheet ∙ s)
        ∙ ap₂ (λ (o : Point) (q : ℕ). all_in o l q (own_entries c) true) (sym r.origin) (sym r.corner)
