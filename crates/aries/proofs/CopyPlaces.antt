-- The places of copies: columns and rows are those of the paper's sentences on m, each cell has its copy in both orders, and
-- places go with the origin.
use mathlib.Core.Path.{◌≡◌, refl, sym, ap, ap₂, ◌∙◌}
use mathlib.Core.Bool.{Bool, true, false, cond}
use Prim.Native.Nat.{ℕ, suc, ◌+◌, ◌*◌, ◌-◌, ◌/◌, ◌%◌, ◌<◌, ◌≤◌}
use native.Mathlib.Nat.{add-mul}
use native.Mathlib.Numerals.{add-one}
use native.Mathlib.Omega.{arith}
use borrow.Author.Tests.{eqb-true, eqb-false, eq-eqb, ne_eqb}
use lib.Dec.{eqb}
use lib.IntN.{ℤ, pos, ◌+ℤ◌, ◌-ℤ◌, +ℤ_assoc, +ℤ-neg_ℤ_cancel, pos-+ℤ-pos}
use Rattle.aries.specs.declared.point.Point.{Point}
use Rattle.aries.specs.declared.block.Layout.{Layout}
use Rattle.aries.specs.declared.block.Copies.{Copies}
use Rattle.aries.specs.Moves.{point_at, ◌⊕◌}
use Rattle.aries.specs.Lanes.{lane, along, column_of, row_of}
use Rattle.aries.specs.Layouts.{copy_count, from_right, from_top, facing, place_at, copy_place}
use Rattle.aries.specs.CopyRuns.{Cell, back_and_forth, cell_of, coordinate, place_of}
use Rattle.aries.proofs.Points.{⊕-swap}
use Rattle.aries.proofs.Lanes.{lane_bound, along_bound, number_of, number_of_bound, lane-number_of, along-number_of}

-- ---- The paper's cells

parity : (i a b : ℕ) → cond (eqb (i % 2) 0) a b ≡ cond (eqb (i % 2) 1) b a
parity i a b = go (eqb (i % 2) 0) refl
  where
    go : (t : Bool) → eqb (i % 2) 0 ≡ t → cond t a b ≡ cond (eqb (i % 2) 1) b a
    go true e =
        let z : i % 2 ≡ 0 = eqb-true (i % 2) 0 e in
        ap (λ (t : Bool). cond t b a) (sym (ne_eqb (i % 2) 1 (λ o. omega arith)))
    go false e =
        let n = eqb-false (i % 2) 0 e in
        ap (λ (t : Bool). cond t b a) (sym (eq-eqb (i % 2) 1 (omega arith)))

along_is : (last m : ℕ) → along last m ≡ back_and_forth last (m / (last + 1)) (m % (last + 1))
along_is last m =
    parity (m / suc last) (m % suc last) (last - m % suc last)
    ∙ ap (λ (n : ℕ). back_and_forth last (m / n) (m % n)) (sym (add-one last))

lane_is : (last m : ℕ) → lane last m ≡ m / (last + 1)
lane_is last m = ap (λ (n : ℕ). m / n) (sym (add-one last))

abbrev cell : ℕ → ℕ → Cell
cell c r = record { c = c; r = r }

cell_is : (vertical : Bool) (l : Layout) (m : ℕ) → cell (column_of vertical l.steps m) (row_of vertical l.steps m) ≡ cell_of vertical l m
cell_is true l m = ap₂ cell (lane_is l.steps.y m) (along_is l.steps.y m)
cell_is false l m = ap₂ cell (along_is l.steps.x m) (lane_is l.steps.x m)

-- ---- Columns and rows

pub column_bound : (vertical : Bool) (l : Layout) (m : ℕ) → m < copy_count l → column_of vertical l.steps m ≤ l.steps.x
column_bound true l m h = lane_bound l.steps.y l.steps.x m (omega arith)
column_bound false l m h = along_bound l.steps.x m

pub row_bound : (vertical : Bool) (l : Layout) (m : ℕ) → m < copy_count l → row_of vertical l.steps m ≤ l.steps.y
row_bound true l m h = along_bound l.steps.y m
row_bound false l m h = lane_bound l.steps.x l.steps.y m h

-- a copy with its column and row
pub record CopyAt (vertical : Bool) (l : Layout) (c r : ℕ) : Type 0 where
  pub number : ℕ
  pub bound : number < copy_count l
  pub column : column_of vertical l.steps number ≡ c
  pub row : row_of vertical l.steps number ≡ r

-- every cell is visited
pub copy_at : (vertical : Bool) (l : Layout) (c r : ℕ) → c ≤ l.steps.x → r ≤ l.steps.y → CopyAt vertical l c r
copy_at true l c r p q =
    record {
      number = number_of l.steps.y c r;
      bound = let b = number_of_bound l.steps.y c r l.steps.x p q in omega arith;
      column = lane-number_of l.steps.y c r q;
      row = along-number_of l.steps.y c r q;
    }
copy_at false l c r p q =
    record {
      number = number_of l.steps.x r c;
      bound = number_of_bound l.steps.x r c l.steps.y q p;
      column = along-number_of l.steps.x r c p;
      row = lane-number_of l.steps.x r c p;
    }

-- ---- The paper's places

-- pitches counted from the far end are taken off the whole width
coordinate_is :
    (far : Bool) (origin : ℤ) (last n pitch : ℕ) → n ≤ last
    → origin +ℤ pos (facing far last n * pitch) ≡ coordinate far origin last n pitch
coordinate_is true origin last n pitch h =
    sym
    (ap (λ (z : ℤ). origin +ℤ z -ℤ pos (n * pitch)) (ap pos whole ∙ sym (pos-+ℤ-pos ((last - n) * pitch) (n * pitch)))
    ∙ ap (λ (z : ℤ). z -ℤ pos (n * pitch)) (sym (+ℤ_assoc origin (pos ((last - n) * pitch)) (pos (n * pitch))))
    ∙ +ℤ-neg_ℤ_cancel (origin +ℤ pos ((last - n) * pitch)) (pos (n * pitch)))
  where
    parts : last ≡ (last - n) + n
    parts = omega arith

    whole : last * pitch ≡ (last - n) * pitch + n * pitch
    whole = ap (λ (k : ℕ). k * pitch) parts ∙ add-mul (last - n) n pitch
coordinate_is false origin last n pitch h = refl

place_at_is :
    (origin : Point) (l : Layout) (q c r : ℕ) → c ≤ l.steps.x → r ≤ l.steps.y
    → place_at origin l q c r ≡ place_of origin l q (cell c r)
place_at_is origin l q c r h k =
    ap₂ point_at (coordinate_is (from_right q) origin.x l.steps.x c l.pitch.x h) (coordinate_is (from_top q) origin.y l.steps.y r l.pitch.y k)

-- the place of copy m is the one reached by the paper's sentences
pub copy_place_is :
    (origin : Point) (l : Layout) (k : Copies) (m : ℕ) → m < copy_count l
    → copy_place origin l k m ≡ place_of origin l k.corner (cell_of k.vertical l m)
unfolding copy_place
copy_place_is origin l k m h =
    place_at_is origin l k.corner (column_of k.vertical l.steps m) (row_of k.vertical l.steps m) (column_bound k.vertical l m h) (row_bound k.vertical l m h)
    ∙ ap (place_of origin l k.corner) (cell_is k.vertical l m)

-- places go with the origin, whatever the layout's reference
pub copy_place_moves : (origin v reference : Point) (l : Layout) (k : Copies) (m : ℕ)
    → copy_place (origin ⊕ v) (record { reference = reference; pitch = l.pitch; steps = l.steps }) k m ≡ copy_place origin l k m ⊕ v
unfolding copy_place
copy_place_moves origin v reference l k m = ⊕-swap origin v _
