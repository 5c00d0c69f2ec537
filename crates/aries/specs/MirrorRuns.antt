-- What is proved of mirrors: for every macro, state and frame, whatever is stored and whichever mirrors are open. (Document 02, §5.)
use Rattle.std.specs.Prelude.{◌≡◌, cond, map, ℕ, ℤ, ◌+ℤ◌, ◌-ℤ◌, Ok}
use Rattle.aries.specs.declared.point.Point.{Point}
use Rattle.aries.specs.declared.block.Axes.{Axes}
use Rattle.aries.specs.declared.block.Call.TheVariants.{Mirrored}
use Rattle.aries.specs.declared.mirror.Facing.{Facing}
use Rattle.aries.specs.declared.state.Frame.{Frame}
use Rattle.aries.specs.declared.state.Progress.{Progress}
use Rattle.aries.specs.Outcome.{Out}
use Rattle.aries.specs.Entries.{placed_by, Made}
use Rattle.aries.specs.Judging.{limits}
use Rattle.aries.specs.Mirrors.{no_mirror, reflected, seen}
use Rattle.aries.specs.Moves.{giving, mirror_spans}
use Rattle.aries.specs.Macros.{Bodies, Calls, call_mirrored, carry_call, call}

-- ---- Two mirrors with one a and b

-- a macro that is one G73 alone, with a Q and a W and no letters, so that a and b are those of the block that calls it
abbrev pub mirror_alone : Calls → ℕ → ℕ → Calls
mirror_alone call q part f n line g = call_mirrored call f line q part g

-- Mirrored twice by one Q, a macro makes what it makes by Q1, and mirrored by Q2 and by Q3, either inside the other, what it makes by
-- Q4: the same entries, the same state, or the same refusal, whatever it is to call it. And so it is with points.
pub record MirrorsCompose : Type 0 where
  pub twice :
      (call : Calls) (f : Frame) (line q n part : ℕ) (g : Progress)
      → call_mirrored (mirror_alone call q part) f line q n g ≡ call_mirrored call f line 1 part g
  pub three_in_two :
      (call : Calls) (f : Frame) (line n part : ℕ) (g : Progress)
      → call_mirrored (mirror_alone call 3 part) f line 2 n g ≡ call_mirrored call f line 4 part g
  pub two_in_three :
      (call : Calls) (f : Frame) (line n part : ℕ) (g : Progress)
      → call_mirrored (mirror_alone call 2 part) f line 3 n g ≡ call_mirrored call f line 4 part g
  pub point-twice : (q : ℕ) (spans origin p : Point) → reflected q spans origin (reflected q spans origin p) ≡ p
  pub point_both : (spans origin p : Point) → reflected 3 spans origin (reflected 2 spans origin p) ≡ reflected 4 spans origin p

-- ---- Points before the mirrors that are open

abbrev pub unseen_axis : Facing → ℤ → ℤ
unseen_axis t x = cond t.flipped (t.span -ℤ x) (x -ℤ t.span)

abbrev pub unseen_from : Facing → ℤ → ℤ → ℤ
unseen_from t origin x = origin +ℤ unseen_axis t (x -ℤ origin)

-- the point that is seen at a point
unfoldable pub unseen : Frame → Point → Point
unseen f p = record { x = unseen_from f.mirror.x f.origin.x p.x; y = unseen_from f.mirror.y f.origin.y p.y }

-- It is: each undoes the other.
pub record MirrorsUndone : Type 0 where
  pub unseen-seen : (f : Frame) (p : Point) → unseen f (seen f p) ≡ p
  pub seen-unseen : (f : Frame) (p : Point) → seen f (unseen f p) ≡ p

-- ---- The mirror sentence

-- What a G73 depends on besides its Q: what is stored, how many calls may be opened, the frame, the line of the block, its W, X and
-- Y, and the progress before.
pub record MirrorRun : Type 0 where
  pub bodies : Bodies
  pub calls : ℕ
  pub frame : Frame
  pub line : ℕ
  pub part : ℕ
  pub axes : Axes
  pub before : Progress

-- the block with a Q, and all that it carries out
unfoldable pub run_by : ℕ → MirrorRun → Out (Made Progress)
unfolding call
run_by q c =
    carry_call (call (limits c.frame.job) c.bodies c.calls) c.frame c.line
    (Mirrored (record { part = c.part; way = q; axes = c.axes })) c.before

-- X turned into a − X and Y into b − Y, as Q says, measured from the origin
abbrev pub turned_by : ℕ → MirrorRun → Point → Point
turned_by q c p = reflected q (mirror_spans (giving c.before.state c.axes)) c.frame.origin p

-- the same, taken before the mirrors that were open already
abbrev pub image_by : ℕ → MirrorRun → Point → Point
image_by q c p = seen c.frame (turned_by q c (unseen c.frame p))

-- Where a macro is accepted by Q1 and by another Q from one state, the entries of the second are those of the first, each hit so
-- turned and the stops as they were; and state and counts that the two leave are equal. Where no mirror was open, each X is turned
-- into a − X and each Y into b − Y as it is.
pub record MirrorSentence : Type 0 where
  pub turned :
      (q : ℕ) (c : MirrorRun) (m m' : Made Progress) → run_by 1 c ≡ Ok m → run_by q c ≡ Ok m'
      → (m'.entries ≡ map (placed_by (image_by q c)) m.entries) × (m'.after ≡ m.after)
  pub outermost :
      (q : ℕ) (c : MirrorRun) (m m' : Made Progress) → c.frame.mirror ≡ no_mirror → run_by 1 c ≡ Ok m → run_by q c ≡ Ok m'
      → m'.entries ≡ map (placed_by (turned_by q c)) m.entries
