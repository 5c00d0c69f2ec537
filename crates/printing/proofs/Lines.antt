-- Laws of lines in order, put at the end of a buffer from the last to the first. Assumes nothing.
use Rattle.std.proofs.Common.{◌≡◌, sym, refl, ap, ◌∙◌, subst, List, ◌++◌, ℕ, zero, suc, ◌-◌, ◌<◌, ◌≤◌, take, drop, arith}
use Rattle.std.proofs.lemmas.List.{append_assoc}
use Rattle.printing.specs.Buffers.{Ends}
use Rattle.printing.specs.Listing.{lines_of}
use Rattle.printing.proofs.Buffers.{in_front}

-- the last of some lines
pub last_line : (line : ℕ → List ℕ) (n : ℕ) → 0 < n → lines_of line n ≡ lines_of line (n - 1) ++ line (n - 1)
unfolding lines_of
last_line line zero h = absurd (omega arith)
last_line line (suc n) h =
    let e : suc n - 1 ≡ n = omega arith in
    rw e refl

-- What has been put of the lines of a buffer, where the first i of them are left.
pub record Left (line : ℕ → List ℕ) (i : ℕ) (all before : List ℕ) (end : ℕ) (out : List ℕ) : Type 0 where
  pub put : Ends (drop end out) before end out
  pub rest : lines_of line i ++ drop end out ≡ all

-- one line more
pub one_more :
    {line : ℕ → List ℕ} {i : ℕ} {all before out part : List ℕ} {end start : ℕ}
    → 0 < i → Left line i all before end out → Ends (line (i - 1)) (take end out) start part
    → Left line (i - 1) all before start (part ++ drop end out)
one_more {line} {i} {all} {before} {out} {part} {end} {start} h p q =
    let e = in_front p.put q in
    record {
      put = subst (λ b. Ends b before start (part ++ drop end out)) (sym e.written) e;
      rest =
          ap (λ l. lines_of line (i - 1) ++ l) e.written
          ∙ sym (append_assoc (lines_of line (i - 1)) (line (i - 1)) (drop end out))
          ∙ ap (λ l. l ++ drop end out) (sym (last_line line i h))
          ∙ p.rest;
    }

-- none is left
pub all_put :
    {line : ℕ → List ℕ} {i : ℕ} {all before out : List ℕ} {end : ℕ}
    → i ≤ 0 → Left line i all before end out → Ends all before end out
unfolding lines_of
all_put {line} {i} {all} {before} {out} {end} h p =
    let e : i ≡ 0 = omega arith in
    subst (λ b. Ends b before end out) (rw e at p.rest) p.put
