-- The law of carrying a pattern out, where its numbers and its reach pass.
use mathlib.Core.Path.{◌≡◌}
use mathlib.Core.Bool.{true}
use Prim.Native.Nat.{ℕ}
use Rattle.std.specs.Prelude.{Result}
use Rattle.aries.specs.declared.block.Pattern.{Pattern}
use Rattle.aries.specs.declared.refusal.Refusal.{Refusal}
use Rattle.aries.specs.declared.state.Frame.{Frame}
use Rattle.aries.specs.declared.state.Progress.{Progress}
use Rattle.patterns.specs.declared.series.Series.{Series}
use Rattle.patterns.specs.declared.series.Reached.{Reached}
use Rattle.aries.specs.Moves.{dropping, with_state}
use Rattle.aries.specs.Outcome.{in_line}
use Rattle.aries.specs.Patterns.{reach_is_near, shear_is_fit, start_of, pattern}
use Rattle.aries.specs.Steady.{Steady}
use Rattle.aries.specs.Runs.{Lent, Carried}
use Rattle.patterns.specs.Series.{begun, come_out, Comes, series}

-- The pattern is a series from the state's start, with its tool and mode,
abbrev pub series_from : (f : Frame) → Steady 0 f → Progress → Series
series_from f steady g =
    record {
      frame = f;
      tooling = record { tool = g.state.tool; nibble = g.state.nibble };
      start = start_of g.state;
      entries = g.entries;
      steady = steady;
    }

-- which goes on with no pattern origin waiting.
pub pattern_ran :
    (f : Frame) (steady : Steady 0 f) (line : ℕ) (p : Pattern) (g : Progress) (r : Result Reached Refusal) {before after : Lent}
    → true ≡ shear_is_fit p → true ≡ reach_is_near p → let s = series_from f steady g in Comes r s (begun s) before after (series s p)
    → Carried (come_out (with_state g (dropping g.state)) s.tooling (in_line line r)) f before after g (λ j. pattern j f line p)
unfolding pattern
pattern_ran f steady line p g r e h comes = rw (← e, ← h) (comes line (with_state g (dropping g.state)))
