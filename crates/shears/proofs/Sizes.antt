-- How large the numbers of G66 can be where its words are of 32 bits.
use mathlib.Core.Path.{◌≡◌, sym}
use mathlib.Core.Bool.{true}
use Prim.Native.Nat.{ℕ, ◌+◌, ◌-◌, ◌*◌, ◌/◌, ◌%◌, ◌≤◌, ◌<◌, min}
use native.Mathlib.Nat.{div-eq_of_lt-le}
use Rattle.std.proofs.lemmas.Grind.{div_ceil_times}
use native.Mathlib.Omega.{arith}
use lib.Dec.{lit≤}
use lib.IntN.{pos, nat_abs, ◌*ℤ◌}
use mir.Syntax.{w32}
use mir.Val.{SFits}
use Rattle.signed.proofs.Integers.{abs_word, abs_add, abs_mul}
use Rattle.aries.specs.declared.block.Shear.{Shear}
use Rattle.aries.specs.Shear.{cut_length, is_fit, travel, steps}
use Rattle.aries.proofs.Shear.{cut_size, steps_few}

-- a quotient with its rest counted as one more, by the divisor less one
pub div_ceil_is : (x y : ℕ) → 0 < y → x / y + min 1 (x % y) ≡ (x + (y - 1)) / y
div_ceil_is x y some =
    let h = div_ceil_times x y some in
    let low : (x / y + min 1 (x % y)) * y ≤ x + (y - 1) = omega (arith, h.1) in
    sym (div-eq_of_lt-le y low (omega (arith, h.0)))

module _ (s : Shear) (length-fits : SFits w32 s.length) (compensation-fits : SFits w32 s.compensation) where
  -- L
  pub cut_bound : nat_abs (cut_length s) ≤ 6442450944
  cut_bound =
      abs_add s.length (pos 2 *ℤ s.compensation) 2147483648 4294967296 (abs_word s.length length-fits)
      (abs_mul (pos 2) s.compensation 2 2147483648 (lit≤ tt) (abs_word s.compensation compensation-fits))

  module _ (fit : is_fit s ≡ true) where
    -- L − w
    pub travel_bound : travel s ≤ 6442450944
    travel_bound = omega (arith, cut_size s fit, cut_bound)

    -- n
    pub steps_bound : steps s ≤ 126322567
    steps_bound = omega (arith, steps_few s fit, cut_bound)
