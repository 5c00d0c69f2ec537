use Rattle.std.specs.Prelude.{Err}
use mathlib.Core.Path.{◌≡◌, refl, ap, ◌∙◌}
use Prim.Native.Nat.{ℕ, suc, ◌<◌, ◌≤◌}
use native.Mathlib.Numerals.{add-one}
use native.Mathlib.Omega.{arith}
use borrow.Author.Rules.{rules}
use Rattle.aries.specs.Judging.{limits}
use Rattle.aries.specs.Layouts.{copy_count, copy_place}
use Rattle.aries.proofs.Lanes.{last_lane_small}
use Rattle.aries.proofs.Runs.{leads-start, leads_as, leads_on, leads_out, leads_end}
use Rattle.lanes.specs.Cursors.{passed}
use Rattle.lanes.proofs.Cursors.{next_within}
use Rattle.copies.specs.Copying.{part_by}
use Rattle.copies.proofs.CopyAll.{copies_all, copies_left, no_copy_left}
use Rattle.copies.proofs.ReadyPart.copy_over.Goals as goal

pub loop-init : goal.loop-init
loop-init c =
    let a = c.args in
    record {
      ends = c.first-cursor.ensures.last;
      here = c.first-cursor.ensures.place;
      same_length = refl;
      leads = leads-start (copies_all (limits a.frame.job) (part_by (limits a.frame.job) a.self.now) a.frame a.line a.progress.now.state a.places a.progress.now);
    }

pub copy_place-place-requires : goal.copy_place-place-requires
copy_place-place-requires c =
    let h = c.loop in
    record {
      last = h.invariant.ends;
      place = omega (arith, h.invariant.here, c.copy_count-count.ensures, c.loop-test.true);
    }

pub returns-in_err-copy_at : goal.returns-in_err-copy_at
returns-in_err-copy_at c =
    let a = c.args in
    let p = a.places in
    let h = c.loop in
    let place = c.copy_place-place.ensures ∙ ap (copy_place p.origin p.layout p.copies) h.invariant.here in
    let more : h.counter < copy_count p.layout = omega (arith, c.copy_count-count.ensures, c.loop-test.true) in
    let e : c.from_residual.result ≡ Err c.in_err-copy_at.field-0.0 = search rules in
    rw e
    (leads_out _ _ c.in_err-copy_at.ensures
    (copies_left (limits a.frame.job) (part_by (limits a.frame.job) a.self.now) a.frame a.line a.progress.now.state p h.counter h.progress place more h.invariant.leads))

pub next-cursor-requires : goal.next-cursor-requires
next-cursor-requires c =
    let p = c.args.places in
    let h = c.loop in
    let within = next_within h.cursor p.copies.vertical p.layout.steps h.invariant.ends (omega (arith, h.invariant.here, c.copy_count-count.ensures, c.loop-test.true)) in
    omega (arith, within, last_lane_small p.copies.vertical p.layout.steps (omega arith) (omega arith))

pub loop-preserved : goal.loop-preserved
loop-preserved c =
    let a = c.args in
    let p = a.places in
    let h = c.loop in
    let place = c.copy_place-place.ensures ∙ ap (copy_place p.origin p.layout p.copies) h.invariant.here in
    let more : h.counter < copy_count p.layout = omega (arith, c.copy_count-count.ensures, c.loop-test.true) in
    record {
      ends = c.next-cursor.ensures.last ∙ h.invariant.ends;
      here = rw add-one (c.next-cursor.ensures.place ∙ ap (λ (m : ℕ). suc m) h.invariant.here);
      same_length = c.copy_at.auto.list ∙ h.invariant.same_length;
      leads =
          leads_on _ _ c.in_ok-copy_at.ensures
          (copies_left (limits a.frame.job) (part_by (limits a.frame.job) a.self.now) a.frame a.line a.progress.now.state p h.counter h.progress place more h.invariant.leads);
    }

pub returns : goal.returns
returns c =
    let a = c.args in
    let h = c.loop in
    let over : copy_count a.places.layout ≤ h.counter = omega (arith, c.copy_count-count.ensures, c.loop-test.false) in
    leads_end (leads_as (no_copy_left (limits a.frame.job) (part_by (limits a.frame.job) a.self.now) a.frame a.line a.progress.now.state a.places h.counter h.progress over) h.invariant.leads)
