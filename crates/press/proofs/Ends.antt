-- Laws of moves and of G72: what has been carried out, by where the place lies, whatever is lent.
use Rattle.std.specs.Prelude.{Ok, Option, Some}
use mathlib.Core.Path.{◌≡◌, refl, sym}
use mathlib.Core.Bool.{Bool, true, false, cond}
use Prim.Native.Nat.{ℕ}
use Rattle.aries.specs.declared.refusal.Refusal.TheVariants.{TooFar, OutOfRange}
use Rattle.aries.specs.declared.block.Axes.{Axes}
use Rattle.aries.specs.declared.point.Point.{Point}
use Rattle.aries.specs.declared.state.Frame.{Frame}
use Rattle.aries.specs.declared.state.Progress.{Progress}
use Rattle.aries.specs.Outcome.{Out, refused, ◌>>=◌, need}
use Rattle.aries.specs.Entries.{Made, no_entry}
use Rattle.aries.specs.Judging.{limits, near}
use Rattle.aries.specs.Machine.{in_range}
use Rattle.aries.specs.Mirrors.{seen}
use Rattle.aries.specs.Moves.{standing_at, waiting_for, choosing, with_state, target, move, set_pattern_origin}
use Rattle.aries.specs.Runs.{Lent, Carried}
use Rattle.aries.specs.WidePoints.{located}
use Rattle.aries.proofs.Judging.{covers-near}
use Rattle.aries.proofs.Runs.{ran-refused, ran_no_entry}
use Rattle.aries.proofs.WidePoints.{located-at}

module _ (f : Frame) (line : ℕ) (a : Axes) where
  -- ---- A move

  -- its end, the point that the block names
  abbrev end : Progress → Point
  end g = target f g.state a

  -- 15 and 16 of an end, and then the rest
  judging : Bool → Bool → Out (Made Progress) → Out (Made Progress)
  judging n c rest = do
    _ ← need n TooFar line
    _ ← need c OutOfRange line
    rest

  outside : (n : Bool) (rest : Out (Made Progress)) → judging n false rest ≡ refused (cond n OutOfRange TooFar) line
  unfolding judging
  outside true rest = refl
  outside false rest = refl

  -- it is refused out of the range
  pub move_outside : (t : Option ℕ) (g : Progress) {l : Lent} → false ≡ in_range f (seen f (end g))
      → Carried (refused (cond (near (seen f (end g))) OutOfRange TooFar) line) f l l g (λ j. move j f line a t)
  unfolding move judging
  move_outside t g c =
      let left = with_state g (standing_at (choosing g.state t) (end g)) in
      let o : move (limits f.job) f line a t g ≡ judging (near (seen f (end g))) (in_range f (seen f (end g))) (no_entry left) = refl in
      rw (o, ← c, outside (near (seen f (end g))) (no_entry left)) ran-refused

  -- and goes there within it, where no end is too far away
  pub move_inside : (t : Option ℕ) (g : Progress) {l : Lent} → true ≡ in_range f (seen f (end g))
      → Carried (Ok (with_state g (standing_at (choosing g.state t) (end g)))) f l l g (λ j. move j f line a t)
  unfolding move
  move_inside t g c =
      rw (covers-near f.machine (seen f (end g)) (sym c), ← c) ran_no_entry

  -- ---- G72

  -- the point that 15 finds waits
  pub origin_near : (g : Progress) {l : Lent} {origin : Point} → Some origin ≡ located (end g)
      → Carried (Ok (with_state g (waiting_for g.state (Some origin)))) f l l g (λ j. set_pattern_origin j f line a)
  unfolding set_pattern_origin
  origin_near g {origin = origin} e =
      let p = located-at (end g) origin e in rw (p.0, p.1) ran_no_entry
