-- What is judged of a line by itself, with the number of the line put to its refusal.
use Rattle.std.specs.Prelude.{Result, Ok, Err}
use Rattle.std.specs.Result.{MatchResult, IsErrAnd}
use mathlib.Core.Path.{◌≡◌, ap}
use Prim.Native.Nat.{ℕ}
use Rattle.aries.specs.declared.refusal.Refusal.{Refusal}
use Rattle.aries.specs.declared.refusal.Refused.{Refused}
use Rattle.aries.specs.Outcome.{Out, in_line}

pub in_line-mapped :
    {A : Type 0} {Q : Refusal → Refused → Type 0} (line : ℕ) (r : Result A Refusal) (out : Out A)
    → MatchResult r (λ x. out ≡ Ok x) (λ e. IsErrAnd out (Q e))
    → ((e : Refusal) (x : Refused) → Q e x → x ≡ record { refusal = e; line = line }) → out ≡ in_line line r
in_line-mapped line (Ok a) out h q = h
in_line-mapped line (Err e) (Err x) h q = ap (λ (y : Refused). Err y) (q e x h)
in_line-mapped line (Err e) (Ok a) h q = absurd h

-- a result in a line is what was judged
pub made_in_line : {A : Type 0} (line : ℕ) (r : Result A Refusal) {a : A} → in_line line r ≡ Ok a → r ≡ Ok a
made_in_line line (Ok b) e = cc
made_in_line line (Err refusal) e = absurd (cc)
