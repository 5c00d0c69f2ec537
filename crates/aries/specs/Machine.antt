-- The two machines: the G92 pair that names each, and the punching range. (Document 01, "Moving and punching"; refusals 8 and 16.)
use Rattle.std.specs.Prelude.{Bool, cond, ◌&&◌, ℤ, pos, neg_ℤ, Option, None, Some}
use Rattle.std.specs.Int.Signed.{le_z}
use Rattle.signed.specs.Signed.{eq_z}
use Rattle.aries.specs.declared.point.Point.{Point}
use Rattle.aries.specs.declared.machine.Machine.{Machine}
use Rattle.aries.specs.declared.machine.Machine.TheVariants.{Aries222, Aries224}
use Rattle.aries.specs.declared.state.Frame.{Frame}

abbrev pub is_pair : Point → ℤ → ℤ → Bool
is_pair p x y = eq_z p.x x && eq_z p.y y

-- G92 X600. Y600. is the ARIES-222, G92 X1000. Y600. the ARIES-224
unfoldable pub named : Point → Option Machine
named p = cond (is_pair p (pos 60000) (pos 60000)) (Some Aries222) (cond (is_pair p (pos 100000) (pos 60000)) (Some Aries224) None)

-- X and Y from −1,020
abbrev pub least_end : ℤ
least_end = neg_ℤ (pos 1020)

-- Y to 61,020
abbrev pub top_end : ℤ
top_end = pos 61020

-- X to 61,020 as Y, on the ARIES-224 to 101,020
abbrev pub right_end : Machine → ℤ
right_end Aries222 = top_end
right_end Aries224 = pos 101020

-- a point is in the punching range; its ends belong to it
unfoldable pub covers : Machine → Point → Bool
covers m p =
    (le_z least_end p.x && le_z p.x (right_end m)) && (le_z least_end p.y && le_z p.y top_end)

-- 16: a point is in the range that holds in a frame
abbrev pub in_range : Frame → Point → Bool
in_range f p = covers f.machine p
