-- Laws of a hit: `punch` by what is judged of it, and what has been carried out with it.
use Rattle.std.specs.Prelude.{Err, None, Ok, Option, Result, Some}
use mathlib.Core.Path.{◌≡◌, refl, sym}
use mathlib.Core.Bool.{Bool, true, false, cond}
use Prim.Native.Nat.{ℕ, ◌+◌, ◌<◌}
use native.Mathlib.Omega.{arith}
use lib.Dec.{ltb}
use borrow.Author.Tests.{ltb-true}
use Rattle.aries.specs.declared.refusal.Refusal.{Refusal}
use Rattle.aries.specs.declared.refusal.Refusal.TheVariants.{NoTool, TooFar, OutOfRange, ListFull}
use Rattle.aries.specs.declared.point.Point.{Point}
use Rattle.aries.specs.declared.state.Frame.{Frame}
use Rattle.aries.specs.declared.state.Progress.{Progress}
use Rattle.aries.specs.Outcome.{Out, refused, ◌>>=◌, need, given, in_line}
use Rattle.aries.specs.Judging.{limits, near}
use Rattle.aries.specs.Machine.{in_range}
use Rattle.aries.specs.Mirrors.{seen}
use Rattle.aries.specs.Entries as Entries
use Rattle.aries.specs.Moves.{moved_to, with_state, entered, hit_of, punch}
use Rattle.aries.specs.Runs.{Lent, over, entries_made, Ran}
use Rattle.press.specs.declared.hits.Tooling.{Tooling}
use Rattle.aries.proofs.Judging.{covers-near}
use Rattle.aries.proofs.Runs.{mapped, ran-refused, ran-made}
use Rattle.press.specs.Entries.{has_place, place_for}
use Rattle.press.specs.Hits.{judged_place, judged_hit, list_after}

-- a hit with a tool where p is seen, which becomes the current point
abbrev hitting : Frame → ℕ → Progress → Point → Entries.Made Progress
hitting f tool g p = entered (hit_of tool g.state (seen f p)) (with_state g (moved_to g.state p))

-- what is judged by the three tests
abbrev judged_by : Point → Bool → Bool → Bool → Result Point Refusal
judged_by p n c r = cond n (cond c (cond r (Ok p) (Err ListFull)) (Err OutOfRange)) (Err TooFar)

-- the test on the way to what is judged: the range, which lies within the limit of 15
outside : (n : Bool) (p : Point) (has_room : Bool) → Err (cond n OutOfRange TooFar) ≡ judged_by p n false has_room
outside true p has_room = refl
outside false p has_room = refl

-- out of the range
pub hit_outside : (f : Frame) (p : Point) (entries : ℕ) → false ≡ in_range f (seen f p)
    → Err (cond (near (seen f p)) OutOfRange TooFar) ≡ judged_place f p entries
unfolding judged_place
hit_outside f p entries c = rw (← c) (outside (near (seen f p)) p (has_place f.job entries))

-- within it, what is judged of the entry
abbrev pub entered_at : Point → Result (Unit {0}) Refusal → Result Point Refusal
entered_at p (Ok u) = Ok p
entered_at p (Err refusal) = Err refusal

inside : (p : Point) (has_room : Bool) → entered_at p (cond has_room (Ok tt) (Err ListFull)) ≡ judged_by p true true has_room
inside p true = refl
inside p false = refl

pub hit_inside : (f : Frame) (p : Point) (entries : ℕ) → true ≡ in_range f (seen f p)
    → entered_at p (place_for f.job entries) ≡ judged_place f p entries
unfolding judged_place
hit_inside f p entries c =
    let n = covers-near f.machine (seen f p) (sym c) in
    simp (← c, n) (inside p (has_place f.job entries))

-- a hit that is made has a place in the list
pub hit-fits : (f : Frame) (p : Point) (tool : Option ℕ) (entries : ℕ) (q : Point) → Ok q ≡ judged_hit f p tool entries → entries < f.job.places
unfolding judged_place
hit-fits f p None entries q e = absurd (cc)
hit-fits f p (Some tool) entries q e =
    ltb-true entries f.job.places (go (near (seen f p)) (in_range f (seen f p)) (ltb entries f.job.places) e)
  where
    go : (n c r : Bool) → Ok q ≡ judged_by p n c r → r ≡ true
    go true true true h = refl
    go true true false h = absurd (cc)
    go true false r h = absurd (cc)
    go false c r h = absurd (cc)

-- ---- `punch` by what is judged

module _ (f : Frame) (line : ℕ) (p : Point) (g : Progress) where
  -- by what is judged of the place, with a tool
  abbrev by_judged : ℕ → Result Point Refusal → Out (Entries.Made Progress)
  by_judged tool (Ok q) = Ok (hitting f tool g q)
  by_judged tool (Err refusal) = refused refusal line

  judging : ℕ → Bool → Bool → Bool → Out (Entries.Made Progress)
  judging tool n c r = do
    _ ← need n TooFar line
    _ ← need c OutOfRange line
    _ ← need r ListFull line
    Ok (hitting f tool g p)

  judging_is : (tool : ℕ) (n c r : Bool) → judging tool n c r ≡ by_judged tool (judged_by p n c r)
  unfolding judging
  judging_is tool false c r = refl
  judging_is tool true false r = refl
  judging_is tool true true false = refl
  judging_is tool true true true = refl

  -- with the tool chosen, if there is one
  punching : Option ℕ → Out (Entries.Made Progress)
  punching tool = ◌>>=◌ (given tool NoTool line) (λ t. judging t (near (seen f p)) (in_range f (seen f p)) (ltb g.entries f.job.places))

  punch_is : punch (limits f.job) f line p g ≡ punching g.state.tool
  unfolding punch punching judging
  punch_is = refl

  -- what a hit leaves
  abbrev left : Point → Progress
  left q = record { state = moved_to g.state q; blocks = g.blocks; entries = g.entries + 1 }

  module _ {before after : Lent} where
    made_ran :
        (tool : ℕ) (r : Result Point Refusal) → r ≡ judged_place f p g.entries → after ≡ list_after f r before g.entries (Some tool) g.state.nibble
        → Ran entries_made f.job (mapped left (in_line line r)) before after g.entries (by_judged tool (judged_place f p g.entries))
    unfolding over
    made_ran tool (Ok q) is written =
        rw (← is)
        (ran-made {m = hitting f tool g q} written refl (λ _. let h = hit-fits f p (Some tool) g.entries q is in omega arith))
    made_ran tool (Err refusal) is written = rw (← is, written) ran-refused

    punching_ran :
        (tool : Option ℕ) (r : Result Point Refusal) → r ≡ judged_hit f p tool g.entries → after ≡ list_after f r before g.entries tool g.state.nibble
        → Ran entries_made f.job (mapped left (in_line line r)) before after g.entries (punching tool)
    unfolding punching judged_place
    punching_ran None (Ok q) is written = absurd (cc)
    punching_ran None (Err refusal) is written = let r : refusal ≡ NoTool = cc in rw (r, written) ran-refused
    punching_ran (Some tool) r is written =
        rw (judging_is tool (near (seen f p)) (in_range f (seen f p)) (ltb g.entries f.job.places)) (made_ran tool r is written)

    -- What has been carried out with it, where the list has the hit that is made, with what the state has chosen.
    pub punch_ran :
        {chosen : Tooling} (r : Result Point Refusal) → chosen ≡ record { tool = g.state.tool; nibble = g.state.nibble }
        → r ≡ judged_hit f p chosen.tool g.entries → after ≡ list_after f r before g.entries chosen.tool chosen.nibble
        → Ran entries_made f.job (mapped left (in_line line r)) before after g.entries (punch (limits f.job) f line p g)
    punch_ran r e is written = rw punch_is (punching_ran g.state.tool r (rw e at is) (rw e at written))
