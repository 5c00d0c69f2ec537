-- Patterns: where their hits lie, and pattern memory. (Document 01, "Patterns"; document 02, §2; refusals 10, 15 and 18.)
use Rattle.std.specs.Prelude.{Bool, true, cond, ◌&&◌, ℕ, zero, suc, ◌-◌, ◌*◌, ℤ, pos, ◌+ℤ◌, ◌-ℤ◌, ◌*ℤ◌, get_or, Option, None, Some}
use Rattle.sine.specs.Series.{nearest}
use Rattle.sine.specs.Sine.{full_turn, sine, cosine, offset}
use Rattle.aries.specs.declared.refusal.Refusal.TheVariants.{NotStored, TooFar, ShearUnfit}
use Rattle.aries.specs.declared.point.Point.{Point}
use Rattle.aries.specs.declared.block.Steps.{Steps}
use Rattle.aries.specs.declared.block.Pattern.{Pattern}
use Rattle.aries.specs.declared.block.Pattern.TheVariants.{Line, Arc, Circle, Grid, Shear}
use Rattle.aries.specs.declared.state.State.{State}
use Rattle.aries.specs.declared.state.Frame.{Frame}
use Rattle.aries.specs.declared.state.Progress.{Progress}
use Rattle.aries.specs.Outcome.{Out, refused, ◌>>=◌, need}
use Rattle.aries.specs.Entries.{Made, no_entry, and_then, map_after}
use Rattle.aries.specs.Judging.{Judging, judged, is_near}
use Rattle.aries.specs.Lanes.{places, column_of, row_of}
use Rattle.aries.specs.Shear.{is_fit, steps, shear_offset}
use Rattle.aries.specs.Moves.{point_at, ◌⊕◌, moved_to, dropping, choosing, remembering, with_state, punch}

-- ---- Where the hits lie: each is start plus offset; the offset is rounded, never the sum. The start is never punched by
-- the pattern: it is place 0 of a line and of a grid, whose hits count from place 1, the centre of an arc or circle,
-- and where the edge of G66 begins.

-- the offset at a distance and an angle
unfoldable pub polar : ℤ → ℤ → Point
unfolding offset cosine sine
polar distance angle = point_at (offset distance (cosine angle)) (offset distance (sine angle))

-- G28 I J K: the k-th hit at distance k × I, angle J
abbrev pub line_offset : ℤ → ℤ → ℕ → Point
line_offset i j k = polar (pos k *ℤ i) j

-- G29 I J P K: radius I, angles J, J + P, and so on; k counts from 0
abbrev pub arc_offset : ℤ → ℤ → ℤ → ℕ → Point
arc_offset i j p k = polar i (j +ℤ (pos k *ℤ p))

-- 36,000 × k / n to the nearest hundredth of a degree, halves up
abbrev pub turned : ℕ → ℕ → ℕ
turned n k = nearest (full_turn * k) n

-- minus the turn where K is negative
abbrev pub circle_angle : ℤ → Bool → ℕ → ℕ → ℤ
circle_angle j clockwise n k = cond clockwise (j -ℤ pos (turned n k)) (j +ℤ pos (turned n k))

-- G26 I J K, with n the size of K: radius I, hit k, from 0, at angle J plus or minus its turn
abbrev pub circle_offset : ℤ → ℤ → Bool → ℕ → ℕ → Point
circle_offset i j clockwise n k = polar i (circle_angle j clockwise n k)

-- G36 I P J K: P + 1 columns at pitch I, K + 1 rows at pitch J. Place m lies row by row, the first row away from the start,
-- the next back. G37, vertical, goes column by column.
abbrev pub grid_offset : Bool → Point → Steps → ℕ → Point
grid_offset vertical pitch steps m = point_at (pos (column_of vertical steps m) *ℤ pitch.x) (pos (row_of vertical steps m) *ℤ pitch.y)

-- the offset of hit k of a pattern, counted from 0
unfoldable pub hit_offset : Pattern → ℕ → Point
unfolding polar shear_offset
hit_offset (Line i j n) k = line_offset i j (suc k)
hit_offset (Arc i j p n) k = arc_offset i j p k
hit_offset (Circle i j clockwise n) k = circle_offset i j clockwise n k
hit_offset (Grid vertical pitch steps) k = grid_offset vertical pitch steps (suc k)
hit_offset (Shear j s) k = shear_offset j s k

-- how many hits a pattern makes: K of them, in a grid all places but the start, in G66 one more than steps
unfoldable pub hit_count : Pattern → ℕ
unfolding steps
hit_count (Line i j n) = n
hit_count (Arc i j p n) = n
hit_count (Circle i j clockwise n) = n
hit_count (Grid vertical pitch steps) = places steps - 1
hit_count (Shear j s) = suc (steps s)

-- 15: k × I at its largest k, or a grid's I × P and J × K, does not pass the limit; G29, G26 and G66 name no such product
unfoldable pub reach_is_near : Pattern → Bool
reach_is_near (Line i j n) = is_near (pos n *ℤ i)
reach_is_near (Arc i j p n) = true
reach_is_near (Circle i j clockwise n) = true
reach_is_near (Grid vertical pitch steps) = is_near (pos steps.x *ℤ pitch.x) && is_near (pos steps.y *ℤ pitch.y)
reach_is_near (Shear j s) = true

-- 18: the numbers of G66 fit together
unfoldable pub shear_is_fit : Pattern → Bool
unfolding is_fit
shear_is_fit (Line i j n) = true
shear_is_fit (Arc i j p n) = true
shear_is_fit (Circle i j clockwise n) = true
shear_is_fit (Grid vertical pitch steps) = true
shear_is_fit (Shear j s) = is_fit s

-- ---- Carrying a pattern out

-- hits at start plus the offsets of hits k, k + 1, .., so many of them
unfoldable pub punches : Judging → Frame → ℕ → Pattern → Point → ℕ → ℕ → Progress → Out (Made Progress)
unfolding punch hit_offset
punches j f line p start zero k g = no_entry g
punches j f line p start (suc n) k g = and_then (punch j f line (start ⊕ hit_offset p k) g) (punches j f line p start n (suc k))

-- a waiting pattern origin, else the current point
abbrev pub start_at : Option Point → Point → Point
start_at None current = current
start_at (Some origin) current = origin

abbrev pub start_of : State → Point
start_of s = start_at s.waiting s.current

-- The waiting origin is used up, and without hits the current point is the start.
abbrev pub starting : Progress → Progress
starting g = with_state g (moved_to (dropping g.state) (start_of g.state))

-- G26 and G66 end at the start, any other pattern at its last hit.
abbrev pub ending : Pattern → Point → Progress → Progress
ending (Line i j n) start g = g
ending (Arc i j p n) start g = g
ending (Circle i j clockwise n) start g = with_state g (moved_to g.state start)
ending (Grid vertical pitch steps) start g = g
ending (Shear j s) start g = with_state g (moved_to g.state start)

-- 18 comes before anything of 14 to 17 is looked at. Pattern reach is judged before its hits.
unfoldable pub pattern : Judging → Frame → ℕ → Pattern → Progress → Out (Made Progress)
unfolding punches hit_count reach_is_near shear_is_fit
pattern j f line p g = do
  _ ← need (shear_is_fit p) ShearUnfit line
  _ ← need (judged j.bounds (reach_is_near p)) TooFar line
  map_after (ending p (start_of g.state)) (punches j f line p (start_of g.state) (hit_count p) 0 (starting g))

-- T chooses the tool, and A stores code and numbers without T before the hits.
unfoldable pub run_pattern : Judging → Frame → ℕ → Pattern → Option ℕ → Option ℕ → Progress → Out (Made Progress)
unfolding pattern
run_pattern j f line p t a g = pattern j f line p (with_state g (remembering (choosing g.state t) a p))

-- what a memory holds is carried out, or refused where that is nothing
abbrev pub recalled : Judging → Frame → ℕ → Option Pattern → Progress → Out (Made Progress)
recalled j f line None g = refused NotStored line
recalled j f line (Some p) g = pattern j f line p g

-- B n runs what is stored.
unfoldable pub recall : Judging → Frame → ℕ → ℕ → Progress → Out (Made Progress)
unfolding pattern
recall j f line n g = recalled j f line (get_or g.state.memories (n - 1) None) g
