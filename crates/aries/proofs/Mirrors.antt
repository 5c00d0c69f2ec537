-- Laws of mirrors: how they compose, and where points are seen in them.
use mathlib.Core.Path.{◌≡◌, refl, sym, ap, ap₂, ◌∙◌}
use mathlib.Core.Bool.{Bool, true, false, not, cond}
use Prim.Native.Nat.{ℕ}
use lib.IntN.{ℤ, pos, ◌+ℤ◌, ◌-ℤ◌, +ℤ_assoc, +ℤ_comm, +ℤ_idr}
use Rattle.signed.proofs.Integers.{plus-minus, minus_plus, sum_minus, plus_difference, minus_difference, minus_minus, difference_moved}
use Rattle.aries.specs.declared.point.Point.{Point}
use Rattle.aries.specs.declared.mirror.Facing.{Facing}
use Rattle.aries.specs.declared.mirror.Mirror.{Mirror}
use Rattle.aries.specs.declared.state.Frame.{Frame}
use Rattle.aries.specs.Mirrors.{seen_axis, straight, flipped_at, no_mirror, mirrors_x, mirrors_y, opened, reflected_axis, reflected, mirrored, seen_from, seen}
use Rattle.aries.specs.Moves.{point_at, ◌⊕◌}
use Rattle.aries.proofs.Points.{+ℤ-swap}

-- ---- One axis, measured from the origin

-- a mirror inside: x is turned into a − x, and seen in those that were open
pub flipped_seen : (t : Facing) (a x : ℤ) → seen_axis (flipped_at t a) x ≡ seen_axis t (a -ℤ x)
flipped_seen t a x = go t.flipped
  where
    go : (b : Bool) → cond (not b) (cond b (t.span -ℤ a) (t.span +ℤ a) -ℤ x) (cond b (t.span -ℤ a) (t.span +ℤ a) +ℤ x) ≡ cond b (t.span -ℤ (a -ℤ x)) (t.span +ℤ (a -ℤ x))
    go true = sym (minus_difference t.span a x)
    go false = +ℤ_assoc t.span a _

-- the same mirror twice
pub flipped_twice : (t : Facing) (a : ℤ) → flipped_at (flipped_at t a) a ≡ t
flipped_twice t a = go t.flipped t.span
  where
    go : (b : Bool) (s : ℤ) → flipped_at (flipped_at (record { flipped = b; span = s }) a) a ≡ record { flipped = b; span = s }
    go true s = ap (λ (z : ℤ). record { flipped = true; span = z }) (minus_plus s a)
    go false s = ap (λ (z : ℤ). record { flipped = false; span = z }) (plus-minus s a)

-- ---- Both axes

pub opened-twice : (q : ℕ) (spans : Point) (m : Mirror) → opened q spans (opened q spans m) ≡ m
opened-twice q spans m =
    ap₂ (λ (x y : Facing). record { x = x; y = y }) (go (mirrors_x q) m.x spans.x) (go (mirrors_y q) m.y spans.y)
  where
    go : (b : Bool) (t : Facing) (a : ℤ) → cond b (flipped_at (cond b (flipped_at t a) t) a) (cond b (flipped_at t a) t) ≡ t
    go true t a = flipped_twice t a
    go false t a = refl

-- ---- On the sheet

-- not flipped, the origin makes no difference
pub straight-seen : (span origin x : ℤ) → origin +ℤ (span +ℤ (x -ℤ origin)) ≡ x +ℤ span
straight-seen span origin x =
    ap (λ (z : ℤ). origin +ℤ z) (+ℤ_comm span (x -ℤ origin)) ∙ sym (+ℤ_assoc origin (x -ℤ origin) span) ∙ ap (λ (z : ℤ). z +ℤ span) (plus_difference origin x)

-- flipped, it is its own reverse
pub flipped_back : (span origin x : ℤ) → origin +ℤ (span -ℤ ((origin +ℤ (span -ℤ (x -ℤ origin))) -ℤ origin)) ≡ x
flipped_back span origin x =
    ap (λ (z : ℤ). origin +ℤ (span -ℤ z)) (sum_minus origin (span -ℤ (x -ℤ origin)))
    ∙ ap (λ (z : ℤ). origin +ℤ z) (minus_minus span (x -ℤ origin)) ∙ plus_difference origin x

-- origin and point moved by as much are seen so
axis-seen_moves : (t : Facing) (origin x d : ℤ) → seen_from t (origin +ℤ d) (x +ℤ d) ≡ seen_from t origin x +ℤ d
axis-seen_moves t origin x d =
    ap (λ (z : ℤ). origin +ℤ d +ℤ seen_axis t z) (difference_moved x origin d) ∙ +ℤ-swap origin d (seen_axis t (x -ℤ origin))

-- ---- Points

-- where no mirror is open, a point is seen where it is
pub seen_none : (f : Frame) (p : Point) → f.mirror ≡ no_mirror → seen f p ≡ p
unfolding seen
seen_none f p e =
    ap (λ (m : Mirror). point_at (seen_from m.x f.origin.x p.x) (seen_from m.y f.origin.y p.y)) e ∙ ap₂ point_at (axis f.origin.x p.x) (axis f.origin.y p.y)
  where
    axis : (o x : ℤ) → seen_from straight o x ≡ x
    axis o x = straight-seen (pos 0) o x ∙ +ℤ_idr x

-- all moved by a vector is seen so
pub seen_moves : (f : Frame) (p v : Point) → seen (record { job = f.job; machine = f.machine; origin = f.origin ⊕ v; mirror = f.mirror }) (p ⊕ v) ≡ seen f p ⊕ v
unfolding seen
seen_moves f p v =
    ap₂ point_at (axis-seen_moves f.mirror.x f.origin.x p.x v.x) (axis-seen_moves f.mirror.y f.origin.y p.y v.y)

-- inside a mirror a point is seen where those that were open show the point turned
pub seen-mirrored : (q : ℕ) (spans : Point) (f : Frame) (p : Point) → seen (mirrored q spans f) p ≡ seen f (reflected q spans f.origin p)
unfolding seen
seen-mirrored q spans f p =
    ap₂ point_at
    (go (mirrors_x q) f.mirror.x f.origin.x spans.x p.x)
    (go (mirrors_y q) f.mirror.y f.origin.y spans.y p.y)
  where
    go : (b : Bool) (t : Facing) (o a x : ℤ) → seen_from (cond b (flipped_at t a) t) o x ≡ seen_from t o (cond b (reflected_axis o a x) x)
    go false t o a x = refl
    go true t o a x = ap (λ (z : ℤ). o +ℤ z) (flipped_seen t a (x -ℤ o) ∙ ap (seen_axis t) (sym (sum_minus o (a -ℤ (x -ℤ o)))))

-- turning moves along
pub reflected_moves : (q : ℕ) (spans origin p v : Point) → reflected q spans (origin ⊕ v) (p ⊕ v) ≡ reflected q spans origin p ⊕ v
reflected_moves q spans o p v =
    ap₂ point_at (go (mirrors_x q) o.x spans.x p.x v.x) (go (mirrors_y q) o.y spans.y p.y v.y)
  where
    go : (b : Bool) (o a x d : ℤ) → cond b (reflected_axis (o +ℤ d) a (x +ℤ d)) (x +ℤ d) ≡ cond b (reflected_axis o a x) x +ℤ d
    go false o a x d = refl
    go true o a x d = ap (λ (z : ℤ). o +ℤ d +ℤ (a -ℤ z)) (difference_moved x o d) ∙ +ℤ-swap o d (a -ℤ (x -ℤ o))

-- and is its own reverse
pub reflected-twice : (q : ℕ) (spans origin p : Point) → reflected q spans origin (reflected q spans origin p) ≡ p
reflected-twice q spans o p =
    ap₂ point_at (go (mirrors_x q) o.x spans.x p.x) (go (mirrors_y q) o.y spans.y p.y)
  where
    go : (b : Bool) (o a x : ℤ) → cond b (reflected_axis o a (cond b (reflected_axis o a x) x)) (cond b (reflected_axis o a x) x) ≡ x
    go false o a x = refl
    go true o a x = flipped_back a o x
