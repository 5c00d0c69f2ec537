-- A series of hits by what it depends on alone: where it starts, what its hits are made with and how many entries came before.
use Rattle.std.specs.Prelude.{◌≡◌, ◌<◌, ℕ, Result, Ok, Err}
use Rattle.aries.specs.declared.point.Point.{Point}
use Rattle.aries.specs.declared.point.WidePoint.{WidePoint}
use Rattle.aries.specs.declared.block.Pattern.{Pattern}
use Rattle.aries.specs.declared.refusal.Refusal.{Refusal}
use Rattle.aries.specs.declared.state.Progress.{Progress}
use Rattle.press.specs.declared.hits.Tooling.{Tooling}
use Rattle.patterns.specs.declared.series.Series.{Series}
use Rattle.patterns.specs.declared.series.Reached.{Reached}
use Rattle.aries.specs.Outcome.{Out, in_line}
use Rattle.aries.specs.Entries.{Made, map_after}
use Rattle.aries.specs.Judging.{limits}
use Rattle.aries.specs.Moves.{◌⊕◌}
use Rattle.aries.specs.Patterns.{hit_offset, hit_count, punches, ending}
use Rattle.aries.specs.Runs.{Lent, entries_made, Ran}
use Rattle.aries.specs.WidePoints.{point_of}

-- before the first hit
abbrev pub begun : Series → Reached
begun s = record { current = s.start; entries = s.entries }

-- a progress with this tool and mode that has come so far
abbrev pub come : Progress → Tooling → Reached → Progress
come g tooling r =
    record {
      state =
          record {
            current = r.current;
            waiting = g.state.waiting;
            incremental = g.state.incremental;
            nibble = tooling.nibble;
            tool = tooling.tool;
            memories = g.state.memories;
            spans = g.state.spans;
          };
      blocks = g.blocks;
      entries = r.entries;
    }

-- how far a series has come as a progress, or its refusal
abbrev pub come_out : Progress → Tooling → Out Reached → Out Progress
come_out g tooling (Ok r) = Ok (come g tooling r)
come_out g tooling (Err e) = Err e

-- What a series reaches from somewhere on is what something comes to, whatever the line and all else of a progress.
abbrev pub Comes : Result Reached Refusal → Series → Reached → Lent → Lent → (ℕ → Progress → Out (Made Progress)) → Type 0
Comes r s from before after what =
    (line : ℕ) (g : Progress)
    → Ran entries_made s.frame.job (come_out g s.tooling (in_line line r)) before after from.entries (what line (come g s.tooling from))

-- so many hits of a pattern in turn
abbrev pub hits : Series → Pattern → ℕ → ℕ → Progress → Out (Made Progress)
hits s p count line g = punches (limits s.frame.job) s.frame line p s.start count 0 g

-- the hits of a pattern in turn, and its end
abbrev pub series : Series → Pattern → ℕ → Progress → Out (Made Progress)
series s p line g = map_after (ending p s.start) (hits s p (hit_count p) line g)

-- hit k is at a place only where hit k of a pattern lies
abbrev pub LieAt : (ℕ → WidePoint → Type 0) → Pattern → Point → ℕ → Type 0
LieAt IsPlace p start count = (k : ℕ) (w : WidePoint) → k < count → IsPlace k w → point_of w ≡ start ⊕ hit_offset p k
