-- Laws of a block that calls a macro: what it comes to, by what its body does from where it begins; and that the frame and the
-- letters of the body are as they have to be.
use Rattle.std.specs.Prelude.{Err, None, Ok, Some}
use mathlib.Core.Path.{◌≡◌, refl, ap, subst}
use Prim.Native.Nat.{ℕ, suc, ◌-◌, ◌<◌}
use native.Mathlib.Omega.{arith}
use Rattle.aries.specs.declared.block.Call.{Call}
use Rattle.aries.specs.declared.block.Call.TheVariants.{Plain, Mirrored}
use Rattle.aries.specs.declared.refusal.Refusal.TheVariants.{NotStored, TooDeep}
use Rattle.aries.specs.declared.state.Frame.{Frame}
use Rattle.aries.specs.declared.state.Progress.{Progress}
use Rattle.aries.specs.declared.state.State.{State}
use Rattle.aries.specs.Outcome.{Out, refused}
use Rattle.aries.specs.Entries.{map_after}
use Rattle.aries.specs.Judging.{Judging, limits}
use Rattle.aries.specs.Macros.{Body, Bodies, at_origin, carry_call, call, run_body, run_lines}
use Rattle.aries.specs.Moves.{mirror_spans}
use Rattle.aries.specs.Text.{lines}
use Rattle.aries.specs.Runs.{Lent, entries_made, Ran}
use Rattle.aries.specs.Steady.{Steady, GivenNear, CallNear}
use Rattle.aries.proofs.Calls.{call_missing, call_deep, call_body}
use Rattle.aries.proofs.Given.{giving-near}
use Rattle.aries.proofs.Runs.{mapped, ran-map}
use Rattle.aries.proofs.Steady.{steady_less, steady_mirrored}
use Rattle.bodies.specs.Calling.{part_of, begun_by, frame_by, left_by}

-- ---- What it comes to

module _ (j : Judging) (bodies : Bodies) (d : ℕ) (f : Frame) (line : ℕ) (g : Progress) where
  -- its macro is not stored
  pub carry_missing : (b : Call) → bodies (part_of b) ≡ None → carry_call (call j bodies d) f line b g ≡ refused NotStored line
  carry_missing (Plain n) e = call_missing j bodies f n line g d e
  carry_missing (Mirrored m) e = ap (map_after (at_origin f)) (call_missing j bodies _ m.part line _ d e)

  -- no call is left
  pub carry_deep : (b : Call) (x : Body) → bodies (part_of b) ≡ Some x → d ≡ 0 → carry_call (call j bodies d) f line b g ≡ refused TooDeep line
  carry_deep (Plain n) x e z = call_deep j bodies f n line g d x e z
  carry_deep (Mirrored m) x e z = ap (map_after (at_origin f)) (call_deep j bodies _ m.part line _ d x e z)

-- its body was carried out, from where it begins and in its frame
module _
    (bodies : Bodies) (d : ℕ) (f : Frame) (line : ℕ) (b : Call) (g : Progress) {x : Body} (stored : bodies (part_of b) ≡ Some x) (opens : 0 < d)
    {inner : Frame} {begun : Progress} (is_begun : begun ≡ begun_by b f.origin g) (is_inner : inner ≡ frame_by b begun.state f) where
  pub carry_body :
      {result : Out Progress} {before after : Lent}
      → Ran entries_made inner.job result before after begun.entries (run_lines (limits inner.job) (call (limits inner.job) bodies (d - 1)) inner x.line (lines x.bytes) begun)
      → Ran entries_made f.job (mapped (left_by b f.origin) result) before after g.entries (carry_call (call (limits f.job) bodies d) f line b g)
  unfolding run_body
  carry_body {result} {before} {after} ran = go b stored (rw (is_inner, is_begun) at ran)
    where
      same : (r : Out Progress) → mapped (λ (k : Progress). k) r ≡ r
      same (Err e) = refl
      same (Ok k) = refl

      go :
          (b : Call) → bodies (part_of b) ≡ Some x
          → (let k = begun_by b f.origin g in let i = frame_by b k.state f in
          Ran entries_made i.job result before after k.entries (run_body (limits i.job) bodies (d - 1) i x k))
          → Ran entries_made f.job (mapped (left_by b f.origin) result) before after g.entries (carry_call (call (limits f.job) bodies d) f line b g)
      go (Plain n) e r = rw (call_body (limits f.job) bodies f n line g d x e opens, same result) r
      go (Mirrored m) e r =
          rw (call_body (limits f.job) bodies _ m.part line _ d x e opens) (ran-map (at_origin f) (λ k. refl) _ r)

-- ---- What it needs

-- the frame of its body, by the a and b of a state: one call less is left
pub frame_steady : {d : ℕ} {f : Frame} (b : Call) (s : State) → 0 < d → GivenNear s → Steady d f → Steady (d - 1) (frame_by b s f)
frame_steady {d} {f} b s h n steady = go b (subst (λ (k : ℕ). Steady k f) (let e : d ≡ suc (d - 1) = omega arith in e) steady)
  where
    go : (b : Call) → Steady (suc (d - 1)) f → Steady (d - 1) (frame_by b s f)
    go (Plain m) k = steady_less (omega arith) k
    go (Mirrored m) k = steady_mirrored m.way (mirror_spans s) n k

module _ (b : Call) (f : Frame) (g : Progress) {begun : Progress} (is_begun : begun ≡ begun_by b f.origin g) (short : CallNear b) (given : GivenNear g.state) where
  -- the letters that its body begins with
  pub begun_near : GivenNear begun.state
  begun_near = rw is_begun (go b short)
    where
      go : (b : Call) → CallNear b → GivenNear (begun_by b f.origin g).state
      go (Plain n) k = given
      go (Mirrored m) k = giving-near g.state m.axes given k

  -- and its frame
  pub inner_steady : {d : ℕ} {inner : Frame} → inner ≡ frame_by b begun.state f → 0 < d → Steady d f → Steady (d - 1) inner
  inner_steady is_inner h s = rw is_inner (frame_steady b begun.state h begun_near s)
