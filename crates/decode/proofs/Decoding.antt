-- Laws of `decoded_at`: what a caller learns of the line at a place.
use Rattle.std.specs.Prelude.{Err, Ok, Result}
use Rattle.std.specs.Result.{MatchResult, IsErrAnd}
use Rattle.aries.proofs.Outcomes.{ok_injective}
use mathlib.Core.Path.{◌≡◌, refl, ap, ◌∙◌}
use mathlib.Core.List.{List}
use Prim.Native.Nat.{ℕ}
use native.Mathlib.Omega.{arith}
use Rattle.aries.specs.declared.block.Instruction.{Instruction}
use Rattle.aries.specs.declared.reader.Reader.{Reader}
use Rattle.aries.specs.declared.refusal.Refusal.{Refusal}
use Rattle.aries.specs.declared.refusal.Refusal.TheVariants.{WordForm}
use Rattle.aries.specs.Blocks.{decode}
use Rattle.text.specs.Lines.{line_at, line_end}
use Rattle.words.specs.declared.Malformed.{Malformed}
use Rattle.decode.specs.Decoding.{decoded_of, decoded_at}

module _ (end : ℕ) where
  of_instruction :
      (x : Result Instruction Refusal) (i : Instruction) (n : ℕ) → decoded_of end x ≡ Ok (i, n) → (x ≡ Ok i) × (end ≡ n)
  of_instruction (Ok k) i n e =
      let same = ok_injective (k, end) (i, n) e in
      (ap (λ (p : Instruction × ℕ). Ok p.0) same, ap (λ (p : Instruction × ℕ). p.1) same)
  of_instruction (Err refusal) i n e = let z : ◌≡◌ {A = ℕ} 0 1 = cc in absurd (omega arith)

  of_refusal : (x : Result Instruction Refusal) (refusal : Refusal) → decoded_of end x ≡ Err refusal → x ≡ Err refusal
  of_refusal (Ok k) refusal e = let z : ◌≡◌ {A = ℕ} 0 1 = cc in absurd (omega arith)
  of_refusal (Err n) refusal e = let a : n ≡ refusal = cc in rw a

-- ---- A malformed word is refused with 4

-- words that were read, where they are not refused
pub read_formed :
    (Q : Malformed → Refusal → Type 0) (r : Result ℕ Malformed) (out : Result ℕ Refusal) (end : ℕ)
    → MatchResult r (λ n. out ≡ Ok n) (λ m. IsErrAnd out (Q m)) → out ≡ Ok end → r ≡ Ok end
read_formed Q (Ok n) out end h e = cc
read_formed Q (Err m) (Ok n) end h e = absurd h
read_formed Q (Err m) (Err x) end h e = absurd (cc)

-- and where they are
pub read_malformed :
    {Q : Malformed → Refusal → Type 0} (r : Result ℕ Malformed) (out : Result ℕ Refusal) (x : Refusal)
    → MatchResult r (λ n. out ≡ Ok n) (λ m. IsErrAnd out (Q m))
    → ((m : Malformed) (y : Refusal) → Q m y → y ≡ WordForm)
    → out ≡ Err x → (m : Malformed) × (r ≡ Err m) × (x ≡ WordForm)
read_malformed (Ok n) out x h q e = absurd (cc)
read_malformed (Err m) (Ok n) x h q e = absurd h
read_malformed (Err m) (Err y) x h q e = let same : x ≡ y = cc in (m, refl, same ∙ q m y h)

-- ---- The line at a place

module _ (r : Reader) (t : List ℕ) (at : ℕ) where
  pub decoded-instruction : (i : Instruction) (end : ℕ) → decoded_at r t at ≡ Ok (i, end) → (decode r (line_at t at) ≡ Ok i) × (line_end t at ≡ end)
  decoded-instruction i end e = of_instruction (line_end t at) (decode r (line_at t at)) i end e

  pub decoded-refused : (refusal : Refusal) → decoded_at r t at ≡ Err refusal → decode r (line_at t at) ≡ Err refusal
  decoded-refused refusal e = of_refusal (line_end t at) (decode r (line_at t at)) refusal e
