-- Laws of steady frames: which frames are, and that a point is not much farther away than where it is seen.
use mathlib.Core.Path.{◌≡◌, ap, ◌∙◌, subst}
use mathlib.Core.Bool.{Bool, true, false, cond}
use Prim.Native.Nat.{ℕ, suc, ◌+◌, ◌*◌, ◌≤◌}
use native.Mathlib.Omega.{arith}
use native.Mathlib.Nat.{mul-le-mul}
use lib.IntN.{ℤ, nat_abs, ◌+ℤ◌, ◌-ℤ◌}
use Rattle.signed.proofs.Integers.{abs_add, abs_sub, plus-minus}
use Rattle.aries.specs.declared.point.Point.{Point}
use Rattle.aries.specs.declared.mirror.Facing.{Facing}
use Rattle.aries.specs.declared.setup.Setup.{Setup}
use Rattle.aries.specs.declared.state.Frame.{Frame}
use Rattle.aries.specs.Judging.{farthest, near}
use Rattle.aries.specs.Macros.{most_calls}
use Rattle.aries.specs.Mirrors.{seen_axis, flipped_at, mirrors_x, mirrors_y, mirrored, seen_from, seen}
use Rattle.aries.specs.Setup.{ordinary_frame, frame_at}
use Rattle.aries.specs.Steady.{span_limit, unseen_limit, Steady}
use Rattle.aries.proofs.Judging.{near-x, near-y}
use Rattle.aries.proofs.Mirrors.{straight-seen, flipped_back}

-- ---- Which frames are

-- one with fewer calls left
pub steady_less : {d e : ℕ} {f : Frame} → e ≤ d → Steady d f → Steady e f
steady_less {d} {e} {f} h s =
    record {
      origin = s.origin;
      x_span = omega (arith, mul_mono_left e d farthest h, s.x_span);
      y_span = omega (arith, mul_mono_left e d farthest h, s.y_span);
    }
  where
    mul_mono_left : (a b n : ℕ) → a ≤ b → a * n ≤ b * n
    mul_mono_left a b n h = mul-le-mul h (omega arith)

-- the frame of blocks outside bodies
pub steady_ordinary : (s : Setup) → near s.origin ≡ true → Steady most_calls (ordinary_frame s)
steady_ordinary s h = record { origin = h; x_span = omega arith; y_span = omega arith }

-- the frame at another place
pub steady_at : {d : ℕ} {f : Frame} (p : Point) → near p ≡ true → Steady d f → Steady d (frame_at f p)
steady_at p h s = record { origin = h; x_span = s.x_span; y_span = s.y_span }

-- the frame of a mirror that a call opens
pub steady_mirrored : {d : ℕ} {f : Frame} (q : ℕ) (spans : Point) → near spans ≡ true → Steady (suc d) f → Steady d (mirrored q spans f)
steady_mirrored {d} {f} q spans h s =
    record {
      origin = s.origin;
      x_span = go (mirrors_x q) f.mirror.x spans.x (near-x spans h) s.x_span;
      y_span = go (mirrors_y q) f.mirror.y spans.y (near-y spans h) s.y_span;
    }
  where
    axis : (t : Facing) (a : ℤ) → nat_abs a ≤ farthest → nat_abs (seen_axis t a) ≤ nat_abs t.span + farthest
    axis t a h = both t.flipped
      where
        both : (b : Bool) → nat_abs (cond b (t.span -ℤ a) (t.span +ℤ a)) ≤ nat_abs t.span + farthest
        both true = abs_sub t.span a (nat_abs t.span) farthest (omega arith) h
        both false = abs_add t.span a (nat_abs t.span) farthest (omega arith) h

    go : (b : Bool) (t : Facing) (a : ℤ) → nat_abs a ≤ farthest → nat_abs t.span + suc d * farthest ≤ span_limit
        → nat_abs (cond b (flipped_at t a) t).span + d * farthest ≤ span_limit
    go true t a h k = omega (arith, axis t a h, k)
    go false t a h k = omega (arith, k)

-- ---- Points before mirrors

axis-within : (t : Facing) (origin x : ℤ) → nat_abs origin ≤ farthest → nat_abs t.span ≤ span_limit → nat_abs (seen_from t origin x) ≤ farthest → nat_abs x ≤ unseen_limit
axis-within t origin x o s n = go t.flipped n
  where
    go : (b : Bool) → nat_abs (origin +ℤ cond b (t.span -ℤ (x -ℤ origin)) (t.span +ℤ (x -ℤ origin))) ≤ farthest → nat_abs x ≤ unseen_limit
    go true h =
        let seen_at = origin +ℤ (t.span -ℤ (x -ℤ origin)) in
        subst (λ (z : ℤ). nat_abs z ≤ unseen_limit) (flipped_back t.span origin x)
        (abs_add origin (t.span -ℤ (seen_at -ℤ origin)) farthest (span_limit + (farthest + farthest)) o
        (abs_sub t.span (seen_at -ℤ origin) span_limit (farthest + farthest) s (abs_sub seen_at origin farthest farthest h o)))
    go false h =
        let seen_at = origin +ℤ (t.span +ℤ (x -ℤ origin)) in
        let far = abs_sub seen_at t.span farthest span_limit h s in
        subst (λ (z : ℤ). nat_abs z ≤ unseen_limit) (ap (λ (z : ℤ). z -ℤ t.span) (straight-seen t.span origin x) ∙ plus-minus x t.span) (omega (arith, far))

-- where a point is seen near, it is not much farther away itself
pub near_within : (f : Frame) (p : Point) → Steady 0 f → near (seen f p) ≡ true → (nat_abs p.x ≤ unseen_limit) × (nat_abs p.y ≤ unseen_limit)
unfolding seen
near_within f p s h = (
  axis-within f.mirror.x f.origin.x p.x (near-x f.origin s.origin) (omega (arith, s.x_span)) (near-x (seen f p) h),
  axis-within f.mirror.y f.origin.y p.y (near-y f.origin s.origin) (omega (arith, s.y_span)) (near-y (seen f p) h),
)
