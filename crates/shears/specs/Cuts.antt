-- What the hits of a G66 have in common, and where they lie by it.
use Rattle.std.specs.Prelude.{ℕ, suc, ◌+◌, ◌*◌, ◌≤◌, ◌<◌, ℤ, pos, nat_abs, ◌+ℤ◌, ◌-ℤ◌, ◌*ℤ◌}
use Rattle.sine.specs.Series.{one}
use Rattle.sine.specs.Sine.{rounded, direction_of}
use Rattle.aries.specs.declared.point.Point.{Point}
use Rattle.aries.specs.declared.block.Shear.{Shear}
use Rattle.aries.specs.Moves.{point_at}
use Rattle.aries.specs.Shear.{travel, steps, divisor, denominator, across_part}
use Rattle.shears.specs.declared.places.Cut.{Cut}
use Rattle.shears.specs.Fractions.{split, value_of, Reduced}

-- Of an angle and the lengths of a G66. With T for the travel, w/2 − D is (I − T) / 2, so that hit k lies at
-- (n × I + 2 T × k − n × T) / (2 n) along the line: n × I and 2 T × k count ahead, n × T behind.
abbrev pub cut_of : ℕ → Shear → Cut
cut_of j s =
    record {
      hits = suc (steps s);
      ahead = divisor s * nat_abs s.length;
      behind = divisor s * travel s;
      step = 2 * travel s;
      across = split (denominator s) (across_part s);
      direction = direction_of (pos j);
    }

-- the denominator of all its hits
abbrev pub cut_denominator : Cut → ℕ
cut_denominator c = c.across.denominator

-- hit k along the line, times the denominator
abbrev pub along_cut : Cut → ℕ → ℤ
along_cut c k = pos (c.ahead + c.step * k) -ℤ pos c.behind

-- the offset of hit k
unfoldable pub cut_offset : Cut → ℕ → Point
unfolding rounded
cut_offset c k =
    point_at
    (rounded (along_cut c k *ℤ c.direction.cosine -ℤ value_of c.across *ℤ c.direction.sine) (cut_denominator c * one))
    (rounded (along_cut c k *ℤ c.direction.sine +ℤ value_of c.across *ℤ c.direction.cosine) (cut_denominator c * one))

-- the numbers of a cut are as small as those of a G66 are, up to hit k
pub record Bounded (c : Cut) (k : ℕ) : Type 0 where
  pub some : 0 < cut_denominator c
  pub ahead : c.ahead + c.step * k ≤ 4000000000000000000
  pub behind : c.behind ≤ 4000000000000000000
  pub along : nat_abs (along_cut c k) ≤ cut_denominator c * 4294967296
  pub across : Reduced c.across
  pub cosine : nat_abs c.direction.cosine ≤ one
  pub sine : nat_abs c.direction.sine ≤ one
