-- A count of entries is no more than the lent list has places for. Assumes nothing.
use Rattle.std.specs.Prelude.{Err, Ok}
use mathlib.Core.Path.{◌≡◌, sym, ap, ◌∙◌}
use mathlib.Core.List.{List}
use Prim.Native.Nat.{ℕ, ◌-◌, ◌*◌, ◌≤◌}
use native.Mathlib.Omega.{arith}
use lib.IntN.{ℤ, pos}
use lib.ListN.{length, replicate, length-append, length-replicate}
use Rattle.aries.specs.Outcome.{Out}
use Rattle.aries.specs.declared.entry.Entry.{Entry}
use Rattle.aries.specs.Entries.{cells}
use Rattle.aries.specs.Program.{answer_of, count_of, list_of}
use Rattle.tolkjirp.specs.Answers.{Answers}
use Rattle.tolkjirp.proofs.Lists.{length-cells}

-- by the list: its numbers are those of the entries and the zeros past them
counted : (numbers : ℕ) (out : Out (List Entry)) → length (list_of numbers out) ≡ numbers → 4 * count_of (answer_of out) ≤ numbers
unfolding list_of
counted numbers (Err r) e = omega arith
counted numbers (Ok entries) e =
    let a = length-append (cells entries) (replicate (numbers - length (cells entries)) (pos 0)) in
    let b = length-replicate (numbers - length (cells entries)) (pos 0) in
    omega (arith, length-cells entries)

pub count-within :
    (answer : Out ℕ) (list : List ℤ) (tally : List ℕ) (numbers : ℕ) (out : Out (List Entry)) → Answers answer list tally numbers out
    → length list ≡ numbers → 4 * count_of answer ≤ numbers
count-within answer list tally numbers out p e =
    rw p.answered (counted numbers out (sym (ap length p.listed) ∙ e))
