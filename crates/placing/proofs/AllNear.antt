-- Laws of `all_near`: it holds exactly where every place of the layout is near.
use mathlib.Core.Path.{◌≡◌, refl, ap, ap₂, ◌∙◌}
use mathlib.Core.Bool.{Bool, true, false, cond, ◌&&◌}
use Prim.Native.Nat.{ℕ, suc, ◌+◌, ◌-◌, ◌*◌, ◌≤◌, ◌<◌}
use native.Mathlib.Nat.{mul-le-mul, le_refl}
use native.Mathlib.Omega.{arith}
use borrow.Author.Tests.{le-leb, ltb-true, ltb-false}
use lib.Dec.{ltb}
use lib.IntN.{ℤ, pos, negsuc, nat_abs, sub_ℕ, ◌+ℤ◌}
use Rattle.signed.proofs.Tests.{and_left, and_right, and_intro}
use Rattle.aries.specs.declared.block.Copies.{Copies}
use Rattle.aries.specs.declared.block.Layout.{Layout}
use Rattle.aries.specs.declared.point.Point.{Point}
use Rattle.aries.specs.Judging.{is_near, near, farthest}
use Rattle.aries.specs.Layouts.{copy_count, from_right, from_top, facing, place_at, copy_place}
use Rattle.aries.specs.Moves.{point_at, ◌⊕◌}
use Rattle.aries.proofs.CopyPlaces.{column_bound, row_bound, copy_at}
use Rattle.aries.proofs.Judging.{near-x, near-y}
use Rattle.placing.specs.Places.{cell, all_near}

-- ---- Between two near numbers

difference : (a b : ℕ) → nat_abs (sub_ℕ a (suc b)) ≡ (a - suc b) + (suc b - a)
difference a b = go (ltb a (suc b)) refl
  where
    go : (t : Bool) → ltb a (suc b) ≡ t → nat_abs (cond t (negsuc (suc b - suc a)) (pos (a - suc b))) ≡ (a - suc b) + (suc b - a)
    go true e = let h = ltb-true a (suc b) e in omega arith
    go false e = let h = ltb-false a (suc b) e in omega arith

between : (a : ℤ) (low n high : ℕ) → low ≤ n → n ≤ high → nat_abs (a +ℤ pos low) ≤ farthest → nat_abs (a +ℤ pos high) ≤ farthest → nat_abs (a +ℤ pos n) ≤ farthest
between (pos a) low n high h k l r = omega arith
between (negsuc a) low n high h k l r = omega (arith, difference low a, difference n a, difference high a)

-- ---- Steps counted from either end

facing-within : (far : Bool) (last n : ℕ) → n ≤ last → facing far last n ≤ last
facing-within true last n h = omega arith
facing-within false last n h = h

facing_back : (far : Bool) (last n : ℕ) → n ≤ last → facing far last (facing far last n) ≡ n
facing_back true last n h = omega arith
facing_back false last n h = refl

module _ (o : Point) (l : Layout) (k : Copies) where
  -- ---- Where it holds, all places are near

  coordinate : (a : ℤ) (far : Bool) (last n pitch : ℕ) → n ≤ last → nat_abs (a +ℤ pos (0 * pitch)) ≤ farthest → nat_abs (a +ℤ pos (last * pitch)) ≤ farthest
      → is_near (a +ℤ pos (facing far last n * pitch)) ≡ true
  coordinate a far last n pitch h e f =
      le-leb _ farthest (between a (0 * pitch) (facing far last n * pitch) (last * pitch) (omega arith) (mul-le-mul (facing-within far last n h) (le_refl pitch)) e f)

  pub all_near_lem : (m : ℕ) → m < copy_count l → all_near o l ≡ true → near (copy_place o l k m) ≡ true
  unfolding near copy_place
  all_near_lem m h e =
      let low = cell o l 0 0 in
      let high = cell o l l.steps.x l.steps.y in
      let a = and_left (near low) (near high) e in
      let b = and_right (near low) (near high) e in
      and_intro _ _
      (coordinate o.x (from_right k.corner) l.steps.x _ l.pitch.x (column_bound k.vertical l m h) (near-x low a) (near-x high b))
      (coordinate o.y (from_top k.corner) l.steps.y _ l.pitch.y (row_bound k.vertical l m h) (near-y low a) (near-y high b))

  -- ---- Where it does not, one of them is too far

  -- the copy of a cell
  pub record CopyOf (i j : ℕ) : Type 0 where
    pub number : ℕ
    pub bound : number < copy_count l
    pub place : copy_place o l k number ≡ cell o l i j

  copy_of : (i j : ℕ) → i ≤ l.steps.x → j ≤ l.steps.y → CopyOf i j
  unfolding copy_place
  copy_of i j h g =
      let right = from_right k.corner in
      let top = from_top k.corner in
      let v = copy_at k.vertical l (facing right l.steps.x i) (facing top l.steps.y j) (facing-within right l.steps.x i h) (facing-within top l.steps.y j g) in
      record {
        number = v.number;
        bound = v.bound;
        place =
            ap₂ (place_at o l k.corner) v.column v.row
            ∙ ap₂ (λ (a b : ℕ). o ⊕ point_at (pos (a * l.pitch.x)) (pos (b * l.pitch.y))) (facing_back right l.steps.x i h) (facing_back top l.steps.y j g);
      }

  pub some_far : all_near o l ≡ false → (m : ℕ) × (m < copy_count l) × (near (copy_place o l k m) ≡ false)
  some_far e = go (near (cell o l 0 0)) refl e
    where
      far : {i j : ℕ} → CopyOf i j → near (cell o l i j) ≡ false → (m : ℕ) × (m < copy_count l) × (near (copy_place o l k m) ≡ false)
      far v f = (v.number, v.bound, ap near v.place ∙ f)

      go : (t : Bool) → near (cell o l 0 0) ≡ t → (t && near (cell o l l.steps.x l.steps.y)) ≡ false → (m : ℕ) × (m < copy_count l) × (near (copy_place o l k m) ≡ false)
      go false p q = far (copy_of 0 0 (omega arith) (omega arith)) p
      go true p q = far (copy_of l.steps.x l.steps.y (omega arith) (omega arith)) q
