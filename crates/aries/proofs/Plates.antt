-- The plates, by computation.
use mathlib.Core.Path.{refl}
use Rattle.aries.specs.Plates.{found, plates, PlatesHold, millimetre_plates, same_lists, MillimetresHold}

pub plates_hold : PlatesHold
unfolding found plates
plates_hold = refl

pub millimetres_hold : MillimetresHold
unfolding same_lists plates millimetre_plates
millimetres_hold = refl
