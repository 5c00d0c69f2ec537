-- Laws of what is ahead where only G92 may come: the end of the text, or a block, which is refused or begins.
use Rattle.std.specs.Prelude.{Ok, Err, Some, None}
use mathlib.Core.Path.{◌≡◌, refl, sym, ap, subst, ◌∙◌}
use mathlib.Core.List.{List}
use Prim.Native.Nat.{ℕ, ◌+◌}
use native.Mathlib.Omega.{arith}
use lib.ListN.{length, drop}
use Rattle.aries.specs.declared.location.Location.{Location}
use Rattle.aries.specs.declared.reader.Reader.{Reader}
use Rattle.aries.specs.declared.refusal.Refused.{Refused}
use Rattle.aries.specs.declared.setup.Program.{Program}
use Rattle.aries.specs.declared.state.Frame.{Frame}
use Rattle.aries.specs.declared.state.Progress.{Progress}
use Rattle.aries.specs.Outcome.{Out, ◌>>=◌}
use Rattle.aries.specs.Judging.{Judging, limits}
use Rattle.aries.specs.Macros.{Begun, begin}
use Rattle.aries.specs.Program.{with_progress}
use Rattle.aries.specs.Reader.{reader_of}
use Rattle.aries.specs.Runs.{Lent}
use Rattle.aries.specs.Setup.{ordinary_frame}
use Rattle.aries.proofs.Outcomes.{err≢ok, ok_injective}
use Rattle.aries.proofs.Given.{begin-near}
use Rattle.text.specs.Lines.{line_at, blanks}
use Rattle.decode.proofs.NearCalls.{calls_near}
use Rattle.text.proofs.Lines.{line-inside, line-goes_on}
use Rattle.stretches.specs.declared.Ahead.{Ahead}
use Rattle.stretches.specs.Lookahead.{past_blanks, ahead, Known}
use Rattle.stretches.specs.Stretches.{begin_at}
use Rattle.stretches.proofs.Begins.{begin_at-ok}
use Rattle.stretches.proofs.Lookahead.{ahead-block, ahead_nothing}
use Rattle.stretches.proofs.Stretches.{line_end_at}
use Rattle.stretches.proofs.Turns.{known_ahead}
use Rattle.turns.specs.declared.turn.Next.TheVariants.{Line}
use Rattle.turns.specs.Turns.{Turn, lines_from, Alone, Settles}
use Rattle.turns.proofs.Placed.{not_storing}
use Rattle.program.specs.Lines.{InText, Beyond, Leads, Turns}
use Rattle.program.proofs.Turns.{leads_line, turns_settled}
use Rattle.program.proofs.RunFrom.{text_end, skip, begun_then, lines_begun}

-- ---- A block that has begun

-- at a place of a text
begun-at :
    (j : Judging) (f : Frame) (t : List ℕ) (at : Location) (g : Progress) {b : Begun} {end : Location}
    → begin_at j f t at g ≡ Ok (b, end) → begin j f at.line (line_at t at.offset) g ≡ Ok b
begun-at j f t at g {b} {end} is = go (begin j f at.line (line_at t at.offset) g) is
  where
    go : (o : Out Begun) → ◌>>=◌ {B = Begun × Location} o (λ x. Ok (x, line_end_at t at)) ≡ Ok (b, end) → o ≡ Ok b
    go (Ok x) e = ap (λ (r : Begun × Location). Ok r.0) (ok_injective (x, line_end_at t at) (b, end) e)
    go (Err r) e = absurd (err≢ok r (b, end) e)

-- ---- What is ahead

module _ (t : List ℕ) (from : Location) (p : Program) (i : InText t from) where
  abbrev frame : Frame
  frame = ordinary_frame p.setup

  abbrev reader : Reader
  reader = reader_of frame p.progress.state

  -- no block is left
  pub leads-end : ahead reader t from ≡ None → (l : Lent) → Leads (record { program = p; next = Line (record { offset = length t; line = from.line }) }) t from p l l
  leads-end e =
      let j = limits p.setup.job in
      let place : Location = record { offset = length t; line = from.line } in
      leads_line t from p refl refl (record { further = i.inside; inside = omega arith; numbered = omega (arith, i.inside, i.numbered) })
      (text_end j t place p (omega arith) ∙ sym (skip j t from p ∙ text_end j t (past_blanks t from) p (ahead_nothing reader t from e)))

  -- a block is ahead
  module _ (alone : Alone p.stage) {x : Ahead} (is : ahead reader t from ≡ Some x) where
    pub ahead-known : Known reader t x
    ahead-known = known_ahead reader t from (Some x) (sym is) (omega (arith, i.short, i.inside, i.numbered))

    begins : lines_from (limits p.setup.job) t from p ≡ begun_then (limits p.setup.job) t p (begin_at (limits p.setup.job) frame t x.at p.progress)
    begins =
        let j = limits p.setup.job in
        skip j t from p
        ∙ ap (λ (place : Location). lines_from j t place p) (sym (ahead-block reader t from x is).past)
        ∙ lines_begun j t x.at p ahead-known.inside ahead-known.block (not_storing p.stage alone)

    -- it is refused
    pub ahead-refused : {e : Refused} → begin_at (limits p.setup.job) frame t x.at p.progress ≡ Err e → lines_from (limits p.setup.job) t from p ≡ Err e
    ahead-refused e = begins ∙ ap (begun_then (limits p.setup.job) t p) e

    -- its line ends further on
    end_beyond : Beyond t from (line_end_at t x.at)
    end_beyond =
        let past = (ahead-block reader t from x is).past in
        let a : x.at.offset ≡ from.offset + blanks (drop from.offset t) = ap (λ (l : Location). l.offset) past in
        let b : x.at.line ≡ from.line + blanks (drop from.offset t) = ap (λ (l : Location). l.line) past in
        let k = line-goes_on t x.at.offset ahead-known.inside ahead-known.block in
        let w = line-inside t x.at.offset (omega (arith, ahead-known.inside)) in
        record { further = omega (arith, a, k); inside = omega (arith, w); numbered = omega (arith, a, b, i.numbered) }

    -- it begins, and is settled
    pub ahead_begun :
        {b : Begun} {end : Location} (out : Out Turn) → begin_at (limits p.setup.job) frame t x.at p.progress ≡ Ok (b, end)
        → Settles out end b.block (with_progress p b.progress) → (l : Lent) → Turns out t from p l l
    ahead_begun {b} {end} out e settled =
        let j = limits p.setup.job in
        let n = begin_at-ok j frame t x.at p.progress e in
        turns_settled t from p end b.block out settled n.0 (subst (Beyond t from) (sym n.1) end_beyond)
        (λ h. (begin-near calls_near j frame x.at.line (line_at t x.at.offset) p.progress h b (begun-at j frame t x.at p.progress e)).given)
        (begins ∙ ap (begun_then j t p) e)
