-- Laws of the size of a body: by the line at a place of the text, and from line to line.
use Rattle.std.specs.Prelude.{None, Option, Some}
use Rattle.std.specs.Bool.{then_some}
use mathlib.Core.Path.{◌≡◌, refl, ap, ◌∙◌}
use mathlib.Core.Bool.{Bool, true, false, cond}
use mathlib.Core.List.{List}
use Prim.Native.Nat.{ℕ, ◌+◌, ◌-◌, ◌≤◌, ◌<◌}
use native.Mathlib.Omega.{arith}
use lib.ListN.{length, get_or, drop, length-take}
use Rattle.aries.specs.Text.{lines}
use Rattle.aries.specs.declared.reader.Reader.{Reader}
use Rattle.aries.specs.Bodies.{is_own_close, longer, body_size}
use Rattle.text.specs.Lines.{line_length, line_at, line_end}
use Rattle.text.proofs.Lines.{line-short, lines_at, lines-past, first_byte}
use Rattle.storing.specs.Marks.{marks}

-- ---- The line at a place

module _ (t : List ℕ) (at : ℕ) (h : at < length t) where
  line-marks : marks (get_or (line_at t at) 0 0) ≡ marks (get_or t at 0)
  line-marks = first_byte marks refl refl t at h

  module _ (r : Reader) (n : ℕ) where
    -- a U or V line ends the search
    size_mark : marks (get_or t at 0) ≡ true → body_size r n (lines (drop at t)) ≡ cond (is_own_close r n (line_at t at)) (Some 0) None
    unfolding body_size
    size_mark m = ap (body_size r n) (lines_at t at h) ∙ simp (body_size, line-marks, m)

    -- another line belongs to the body
    size_other :
        marks (get_or t at 0) ≡ false → body_size r n (lines (drop at t)) ≡ longer (line_length (drop at t) + 1) (body_size r n (lines (drop (line_end t at + 1) t)))
    unfolding body_size
    size_other m =
        let s = line-short (drop at t) in
        let k : length (line_at t at) ≡ line_length (drop at t) = simp length-take (omega arith) in
        ap (body_size r n) (lines_at t at h) ∙ simp (body_size, line-marks, m, k)

-- ---- From line to line

-- line upon line
longer_again : (a b k : ℕ) (size : Option ℕ) → a + b ≡ k → longer a (longer b size) ≡ longer k size
longer_again a b k None e = refl
longer_again a b k (Some n) e = let d : a + (b + n) ≡ k + n = omega arith in ap Some d

longer_zero : (k : ℕ) (size : Option ℕ) → k ≡ 0 → size ≡ longer k size
longer_zero k None e = refl
longer_zero k (Some n) e = let d : n ≡ k + n = omega arith in ap Some d

module _ (r : Reader) (n : ℕ) (t : List ℕ) (from : ℕ) where
  abbrev size : Option ℕ
  size = body_size r n (lines (drop from t))

  -- the size from the start, as it is from a line on
  abbrev pub From : ℕ → Type 0
  From at = size ≡ longer (at - from) (body_size r n (lines (drop at t)))

  pub from_start : From from
  from_start = let k : from - from ≡ 0 = omega arith in longer_zero (from - from) size k

  -- no V line up to the end of the text
  pub size_past : (at : ℕ) → length t ≤ at → From at → size ≡ None
  unfolding body_size
  size_past at h s = s ∙ ap (λ (ls : List (List ℕ)). longer (at - from) (body_size r n ls)) (lines-past t at h)

  module _ (at : ℕ) (h : at < length t) (s : From at) where
    -- another line
    pub from_other : from ≤ at → marks (get_or t at 0) ≡ false → From (line_end t at + 1)
    from_other f m =
        let k : at - from + (line_length (drop at t) + 1) ≡ line_end t at + 1 - from = omega arith in
        s
        ∙ ap (longer (at - from)) (size_other t at h r n m)
        ∙ longer_again (at - from) (line_length (drop at t) + 1) (line_end t at + 1 - from) (body_size r n (lines (drop (line_end t at + 1) t))) k

    -- a U or V line: the bytes up to there, if it is the own V line
    pub size-at-mark : from ≤ at → marks (get_or t at 0) ≡ true → size ≡ then_some (is_own_close r n (line_at t at)) (at - from)
    size-at-mark f m = s ∙ ap (longer (at - from)) (size_mark t at h r n m) ∙ go (is_own_close r n (line_at t at))
      where
        go : (own : Bool) → longer (at - from) (cond own (Some 0) None) ≡ then_some own (at - from)
        go true = let k : at - from + 0 ≡ at - from = omega arith in ap Some k
        go false = refl
