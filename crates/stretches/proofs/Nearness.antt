-- A stretch leaves the letters given no longer than words are, and so is a call that it ends at.
use Rattle.std.specs.Prelude.{Ok, Err, Option, Some, None}
use mathlib.Core.Path.{◌≡◌, refl}
use mathlib.Core.List.{List, [], ◌∷◌}
use Prim.Native.Nat.{ℕ}
use lib.ListN.{length}
use Rattle.aries.specs.declared.block.Call.{Call}
use Rattle.aries.specs.declared.block.Block.{Block}
use Rattle.aries.specs.declared.location.Location.{Location}
use Rattle.aries.specs.declared.state.Frame.{Frame}
use Rattle.aries.specs.declared.state.Progress.{Progress}
use Rattle.aries.specs.Outcome.{Out, ◌>>=◌}
use Rattle.aries.specs.Entries.{Made, map_after}
use Rattle.aries.specs.Judging.{Judging}
use Rattle.aries.specs.Macros.{carry_direct, Begun, begin}
use Rattle.aries.specs.Steady.{GivenNear, CallNear}
use Rattle.aries.proofs.Given.{LeavesNear, carry_direct-near, begin-near}
use Rattle.decode.proofs.NearCalls.{calls_near}
use Rattle.stretches.specs.declared.Sequel.{Sequel}
use Rattle.stretches.specs.Stretches.{Stretch, going, block_step, line_step, onward, end_of, behind, stretch}
use Rattle.stretches.proofs.Sequels.{Left, left_err, left_ok, left_then}

-- a call that comes after a stretch
abbrev pub SequelNear : Option Sequel → Type 0
SequelNear None = Unit {0}
SequelNear (Some (Sequel.Call c end)) = CallNear c
SequelNear (Some (Sequel.Outside o end)) = Unit {0}

pub record StretchNear (s : Stretch) : Type 0 where
  pub given : GivenNear s.progress.state
  pub sequel : SequelNear s.sequel

module _ (j : Judging) (f : Frame) where
  line-near : (end : Location) (l : List ℕ) (g : Progress) → GivenNear g.state → Left StretchNear (line_step j f end l g)
  line-near end [] g h = left_ok (record { given = h; sequel = tt })
  line-near end (b ∷ bs) g h = begins (begin j f end.line (b ∷ bs) g) refl
    where
      carried : (x : Out (Made Progress)) → LeavesNear x → Left StretchNear (map_after going x)
      carried (Ok m) n = left_ok (record { given = n.left; sequel = tt })
      carried (Err e) n = left_err

      blocks : (d : Block) → ((c : Call) → d ≡ Block.Call c → CallNear c) → (g : Progress) → GivenNear g.state → Left StretchNear (block_step j f end d g)
      blocks (Block.Direct d) k g h = carried (carry_direct j f end.line d g) (carry_direct-near j f end.line d g h)
      blocks (Block.Call c) k g h = left_ok (record { given = h; sequel = k c refl })
      blocks (Block.Outside o) k g h = left_ok (record { given = h; sequel = tt })

      begins : (x : Out Begun) → begin j f end.line (b ∷ bs) g ≡ x → Left StretchNear (◌>>=◌ x (λ b. block_step j f end b.block b.progress))
      begins (Err r) e = left_err
      begins (Ok x) e = let n = begin-near calls_near j f end.line (b ∷ bs) g h x e in blocks x.block n.block x.progress n.given

  onward-near :
      (rest : Progress → Out (Made Stretch)) (s : Stretch) → StretchNear s → ((g : Progress) → GivenNear g.state → Left StretchNear (rest g)) → Left StretchNear (onward rest s)
  onward-near rest s h k = go s.sequel h.sequel
    where
      go : (q : Option Sequel) → SequelNear q → Left StretchNear (onward rest (record { progress = s.progress; sequel = q }))
      go None n = k s.progress h.given
      go (Some q) n = left_ok (record { given = h.given; sequel = n })

  -- the lines from a place on
  pub stretch-near : (ls : List (List ℕ)) (at : Location) (g : Progress) → GivenNear g.state → Left StretchNear (stretch j f at ls g)
  unfolding stretch
  stretch-near [] at g h = left_ok (record { given = h; sequel = tt })
  stretch-near (l ∷ ls) at g h =
      left_then (line_step j f (end_of at (length l)) l g) _ (line-near (end_of at (length l)) l g h)
      (λ s k. onward-near (stretch j f (behind (end_of at (length l))) ls) s k (stretch-near ls (behind (end_of at (length l)))))
