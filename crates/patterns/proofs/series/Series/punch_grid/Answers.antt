-- Each turn takes the cursor to the next place, and makes the hit there.
use Rattle.std.specs.Prelude.{Ok, Err}
use mathlib.Core.Path.{◌≡◌, ap, ◌∙◌}
use Prim.Native.Nat.{ℕ, suc}
use native.Mathlib.Numerals.{add-one}
use native.Mathlib.Omega.{arith}
use borrow.Author.Rules.{rules}
use Rattle.aries.proofs.Lanes.{last_lane_small}
use Rattle.lanes.specs.Cursors.{passed}
use Rattle.lanes.proofs.Cursors.{lane_within}
use Rattle.aries.specs.declared.block.Pattern.TheVariants.{Grid}
use Rattle.aries.specs.Lanes.{lane_end}
use Rattle.aries.specs.Moves.{◌⊕◌}
use Rattle.aries.specs.Patterns.{grid_offset, hit_offset, hit_count}
use Rattle.aries.specs.WidePoints.{point_of}
use Rattle.patterns.proofs.Comes.{series_ended, under_start, under_next, hits_refused, hits_end}
use Rattle.patterns.proofs.series.Series.punch_grid.Goals.{After-grid_place-place, After-next-cursor}
use Rattle.patterns.proofs.series.Series.punch_grid.Goals as goal

-- the cursor goes to the next place
next_ends : (c : After-next-cursor) → c.next-cursor.result.last ≡ lane_end c.args.vertical c.args.steps
next_ends c = c.next-cursor.ensures.last ∙ c.loop-k.invariant.ends

next-is : (c : After-next-cursor) → passed c.next-cursor.result ≡ suc c.loop-k.k
next-is c = c.next-cursor.ensures.place ∙ ap (λ (m : ℕ). suc m) c.loop-k.invariant.at_place

-- the place of a hit
place_is : (c : After-grid_place-place) → let a = c.args in point_of c.grid_place-place.result ≡ a.self.start ⊕ hit_offset (Grid a.vertical a.pitch a.steps) c.loop-k.k
unfolding hit_offset
place_is c =
    let a = c.args in
    let next = (goal.at.grid_place-place-requires c.before).After-next-cursor in
    c.grid_place-place.ensures.result_value a.steps (next_ends next) ∙ ap (λ (n : ℕ). a.self.start ⊕ grid_offset a.vertical a.pitch a.steps n) (next-is next)

pub loop-k-init : goal.loop-k-init
loop-k-init c =
    let a = c.args in
    record {
      ends = c.first-cursor.ensures.last ∙ c.lane_end.ensures;
      at_place = c.first-cursor.ensures.place;
      under_way = rw c.begun-reached.ensures (under_start a.self (Grid a.vertical a.pitch a.steps) c.grid_hits-count.result);
    }

pub grid_place-place-requires : goal.grid_place-place-requires
grid_place-place-requires c =
    let a = c.args in
    let next = (goal.at.grid_place-place-requires c).After-next-cursor in
    let within = lane_within c.next-cursor.result a.vertical a.steps (next_ends next) (omega (arith, next-is next, c.grid_hits-count.ensures)) in
    omega (arith, within, last_lane_small a.vertical a.steps (omega arith) (omega arith))

pub returns-in_err-reached : goal.returns-in_err-reached
unfolding hit_count
returns-in_err-reached c =
    let a = c.args in
    let p = Grid a.vertical a.pitch a.steps in
    let is = place_is (goal.at.returns-in_err-reached c).After-grid_place-place in
    let e : c.from_residual.result ≡ Err c.in_err-reached.field-0.0 = search rules in
    rw e
    (series_ended a.self p (Err c.in_err-reached.field-0.0) c.grid_hits-count.ensures
    (hits_refused a.self p c.grid_hits-count.result c.loop-k.invariant.under_way c.loop-k-test.true is (λ l g. rw c.in_err-reached.was at (c.punch_next.ensures l g))))

pub loop-k-preserved : goal.loop-k-preserved
loop-k-preserved c =
    let a = c.args in
    let is = place_is (goal.at.loop-k-preserved c).After-grid_place-place in
    let next = (goal.at.loop-k-preserved c).After-next-cursor in
    record {
      ends = next_ends next;
      at_place = rw add-one (next-is next);
      under_way = under_next a.self (Grid a.vertical a.pitch a.steps) c.grid_hits-count.result c.loop-k.invariant.under_way c.loop-k-test.true is
          (λ l g. rw c.in_ok-reached.was at (c.punch_next.ensures l g));
    }

pub returns : goal.returns
unfolding hit_count
returns c =
    let a = c.args in
    let p = Grid a.vertical a.pitch a.steps in
    series_ended a.self p (Ok c.loop-k.reached) c.grid_hits-count.ensures
    (hits_end a.self p c.grid_hits-count.result c.loop-k.invariant.under_way (omega arith))
