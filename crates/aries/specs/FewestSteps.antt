-- That the steps of G66 are the fewest, and that they cut the whole edge. (Document 02, §2.)
use Rattle.std.specs.Prelude.{◌≡◌, true, ◌↔◌, ℕ, suc, ◌+◌, ◌*◌, ◌≤◌, pos, neg_ℤ, ◌+ℤ◌, ◌-ℤ◌, ◌*ℤ◌}
use Rattle.aries.specs.declared.block.Shear.{Shear}
use Rattle.aries.specs.declared.block.Pattern.TheVariants as pattern
use Rattle.aries.specs.Shear.{width, cut_length, is_fit, travel, longest_step, steps, divisor, denominator, along_part}
use Rattle.aries.specs.Patterns.{hit_count}

-- Equal steps, m of them, of which none is longer than w less 0.5 mm: each is (L − w) / m, and if m is 0 there is no way to go.
abbrev pub Suffice : Shear → ℕ → Type 0
Suffice s m = travel s ≤ m * longest_step s

pub record Fewest (s : Shear) : Type 0 where
  -- the travel is L − w, and the longest step lacks 0.5 mm of w
  pub goes : pos (travel s) ≡ cut_length s -ℤ pos (width s)
  pub overlaps : longest_step s + 50 ≡ width s
  -- the first hit cuts from D before the start on, half of w before its middle,
  pub begins : along_part s 0 -ℤ pos (divisor s * width s) ≡ neg_ℤ (pos (denominator s) *ℤ s.compensation)
  -- the last one up to D past the end of I
  pub ends : along_part s (steps s) +ℤ pos (divisor s * width s) ≡ pos (denominator s) *ℤ (s.length +ℤ s.compensation)
  -- from each hit to the next the tool goes (L − w) / n along the line, before anything is rounded
  pub equal : (k : ℕ) → along_part s (suc k) ≡ along_part s k +ℤ pos (2 * travel s)
  -- n steps suffice,
  pub enough : Suffice s (steps s)
  -- and no smaller number does
  pub least : (m : ℕ) → Suffice s m → steps s ≤ m
  -- there is one hit exactly where L equals w
  pub single : (j : ℕ) → (hit_count (pattern.Shear j s) ≡ 1) ↔ (cut_length s ≡ pos (width s))

-- whatever the lengths, where 18 does not refuse them
abbrev pub FewestSteps : Type 0
FewestSteps = (s : Shear) → is_fit s ≡ true → Fewest s
