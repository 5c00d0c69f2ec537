-- Laws of bytes put at the end of a buffer. Assumes nothing.
use Rattle.std.proofs.Common.{◌≡◌, sym, ap, ◌∙◌, List, ◌++◌, ℕ, ◌≤◌, length, take, drop, take_at, drop_at, length-take-le, arith}
use Rattle.std.proofs.lemmas.List.{append_assoc, length-append, take-take, take-append-drop}
use Rattle.printing.specs.Buffers.{Ends}

-- how long the part in front of them is
pub front : {bytes before after : List ℕ} {start : ℕ} → Ends bytes before start after → length (take start after) ≡ start
front {bytes} {before} {after} {start} p = ap length p.kept ∙ length-take-le start before (omega (arith, p.placed))

-- others in front of them
pub in_front :
    {a b before after part : List ℕ} {end start : ℕ}
    → Ends b before end after → Ends a (take end after) start part
    → Ends (a ++ b) before start (part ++ drop end after)
in_front {a} {b} {before} {after} {part} {end} {start} p q =
    let h : start ≤ end = omega (arith, q.placed, front p) in
    let e : part ++ drop end after ≡ take start part ++ (a ++ b) =
    ap (λ (l : List ℕ). l ++ drop end after) (sym (take-append-drop start part))
    ∙ append_assoc (take start part) (drop start part) (drop end after)
    ∙ ap (λ (l : List ℕ). take start part ++ (l ++ drop end after)) q.written
    ∙ ap (λ (l : List ℕ). take start part ++ (a ++ l)) p.written in
    record {
      placed = omega (arith, length-append a b, p.placed, q.placed, front p);
      written = ap (drop start) e ∙ drop_at (take start part) (a ++ b) start (front q);
      kept =
          ap (take start) e
          ∙ take_at (take start part) (a ++ b) start (front q)
          ∙ q.kept
          ∙ take-take start end after h
          ∙ sym (take-take start end after h)
          ∙ ap (take start) p.kept
          ∙ take-take start end before h;
    }
