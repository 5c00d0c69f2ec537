-- What a stretch comes to at a block that is ahead, by how it begins.
use Rattle.std.specs.Prelude.{Ok, Err, Option, Some, None}
use mathlib.Core.Path.{◌≡◌, sym, ap, ◌∙◌}
use mathlib.Core.List.{List}
use Prim.Native.Nat.{ℕ, suc, ◌+◌, ◌-◌, ◌<◌, ◌≤◌}
use native.Mathlib.Omega.{arith}
use lib.ListN.{length, drop}
use Rattle.aries.specs.declared.block.Block.{Block}
use Rattle.aries.specs.declared.location.Location.{Location}
use Rattle.aries.specs.declared.reader.Reader.{Reader}
use Rattle.aries.specs.declared.refusal.Refused.{Refused}
use Rattle.aries.specs.declared.state.Frame.{Frame}
use Rattle.aries.specs.declared.state.Progress.{Progress}
use Rattle.aries.specs.Outcome.{Out}
use Rattle.aries.specs.Entries.{Made, no_entry, and_then}
use Rattle.aries.specs.Judging.{Judging, limits}
use Rattle.aries.specs.Reader.{reader_of}
use Rattle.aries.specs.Runs.{Lent, Ran}
use Rattle.aries.specs.Text.{lines}
use Rattle.aries.proofs.Runs.{Leads, leads_as, ran-refused}
use Rattle.text.specs.Lines.{blanks}
use Rattle.text.proofs.Lines.{line-goes_on, line-inside}
use Rattle.stretches.specs.declared.Ahead.{Ahead}
use Rattle.stretches.specs.Lookahead.{past_blanks, ahead, LinesFit, Known}
use Rattle.stretches.specs.Stretches.{begun_of, begin_at, Stretch, going, block_step, onward, stretch, entries_of_stretch}
use Rattle.stretches.proofs.Begins.{begin_at-ok}
use Rattle.stretches.proofs.Lookahead.{ahead-block, ahead_nothing}
use Rattle.stretches.proofs.Stretches.{line_end_at, stretch_skip, stretch-block, stretch_end, block_and_on}

-- ---- What is ahead

abbrev pub KnownAhead : Reader → List ℕ → Option Ahead → Type 0
KnownAhead r t None = Unit {0}
KnownAhead r t (Some x) = Known r t x

-- what is left of a stretch, by what is ahead
abbrev pub rest_by : Judging → Frame → List ℕ → Progress → Option Ahead → Out (Made Stretch)
rest_by j f t g None = no_entry (going g)
rest_by j f t g (Some x) = stretch j f x.at (lines (drop x.at.offset t)) g

-- how much of the text is left
abbrev pub left_by : List ℕ → Option Ahead → ℕ
left_by t None = 0
left_by t (Some x) = suc (length t - x.at.offset)

module _ (r : Reader) (t : List ℕ) (from : Location) (next : Option Ahead) (is : next ≡ ahead r t from) where
  pub known_ahead : LinesFit from t → KnownAhead r t next
  known_ahead fits = go next is
    where
      go : (o : Option Ahead) → o ≡ ahead r t from → KnownAhead r t o
      go None e = tt
      go (Some x) e =
          let m = ahead-block r t from x (sym e) in
          let a : x.at.offset ≡ from.offset + blanks (drop from.offset t) = ap (λ (l : Location). l.offset) m.past in
          let b : x.at.line ≡ from.line + blanks (drop from.offset t) = ap (λ (l : Location). l.line) m.past in
          record { inside = m.inside; block = m.block; decoded = m.decoded; fits = omega (arith, a, b, m.inside, fits) }

  pub rest_ahead : (j : Judging) (f : Frame) (g : Progress) → stretch j f from (lines (drop from.offset t)) g ≡ rest_by j f t g next
  rest_ahead j f g = stretch_skip j f t from g ∙ go next is
    where
      go :
          (o : Option Ahead) → o ≡ ahead r t from
          → stretch j f (past_blanks t from) (lines (drop (past_blanks t from).offset t)) g ≡ rest_by j f t g o
      go None e = stretch_end j f t (past_blanks t from) g (ahead_nothing r t from (sym e))
      go (Some x) e = ap (λ (l : Location). stretch j f l (lines (drop l.offset t)) g) (sym (ahead-block r t from x (sym e)).past)

  -- the next block lies further on
  pub left_ahead : (n : ℕ) → n < from.offset → n < length t → left_by t next < suc (length t - n)
  left_ahead n a b = go next is
    where
      go : (o : Option Ahead) → o ≡ ahead r t from → left_by t o < suc (length t - n)
      go None e = omega arith
      go (Some x) e =
          let m = ahead-block r t from x (sym e) in
          let p : x.at.offset ≡ from.offset + blanks (drop from.offset t) = ap (λ (l : Location). l.offset) m.past in
          omega (arith, p, m.inside, a, b)

-- ---- A turn of the loop: a block is ahead, and `begin` has answered. Whoever carries out what is left has carried out the whole.

known_at : {r : Reader} {t : List ℕ} {next : Option Ahead} {x : Ahead} → next ≡ Some x → KnownAhead r t next → Known r t x
known_at is known = rw is at known

module _
    (f : Frame) (g left : Progress) {t : List ℕ} {x : Ahead} {next : Option Ahead} {result : Out (Block × Location)} (is : next ≡ Some x)
    (known : KnownAhead (reader_of f g.state) t next)
    (begins : (f : Frame) → Known (reader_of f g.state) t x → begun_of result left ≡ begin_at (limits f.job) f t x.at g) where
  begins_as : (o : Out (Block × Location)) → result ≡ o → begin_at (limits f.job) f t x.at g ≡ begun_of o left
  begins_as o e = sym (begins f (known_at is known)) ∙ ap (λ (o : Out (Block × Location)). begun_of o left) e

  module _ {b : Block} {end : Location} (ok : result ≡ Ok (b, end)) where
    begun_here : (left.entries ≡ g.entries) × (end ≡ line_end_at t x.at)
    begun_here = begin_at-ok (limits f.job) f t x.at g (begins_as (Ok (b, end)) ok)

    -- its line ends behind its place, and within the text
    turn_behind : (x.at.offset < end.offset) × (end.offset ≤ length t)
    turn_behind =
        let k = known_at is known in
        let o = ap (λ (l : Location). l.offset) begun_here.1 in (
          omega (arith, o, line-goes_on t x.at.offset k.inside k.block),
          omega (arith, o, line-inside t x.at.offset (omega (arith, k.inside))),
        )

    -- so that the lines behind it fit
    pub turn_fits : LinesFit end t
    turn_fits =
        let k = known_at is known in
        let l = ap (λ (l : Location). l.line) begun_here.1 in
        omega (arith, l, k.fits, k.inside, turn_behind.0, turn_behind.1)

    -- and less is left there
    pub turn_less : (r : Reader) (after : Option Ahead) → after ≡ ahead r t end → left_by t after < left_by t next
    turn_less r after e = rw is (left_ahead r t end after e x.at.offset turn_behind.0 (known_at is known).inside)

  module _ {l l₀ : Lent} {k₀ : ℕ} {whole : Out (Made Stretch)} (lead : Leads entries_of_stretch f.job l g.entries (rest_by (limits f.job) f t g next) l₀ k₀ whole) where
    lead_here : (o : Out (Block × Location)) → result ≡ o → Leads entries_of_stretch f.job l g.entries (block_and_on (limits f.job) f t (begun_of o left)) l₀ k₀ whole
    lead_here o e =
        let k = known_at is known in
        leads_as (ap (rest_by (limits f.job) f t g) is ∙ stretch-block (limits f.job) f t x.at g k.inside k.block ∙ ap (block_and_on (limits f.job) f t) (begins_as o e)) lead

    -- a block that is refused ends the stretch,
    pub turn_refused : {after : Lent} {e : Refused} → result ≡ Err e → Ran entries_of_stretch f.job (Err e) l₀ after k₀ whole
    turn_refused {after} {e} err = lead_here (Err e) err (Err e) after ran-refused

    -- and past one that has begun, its step is left, and what follows it.
    pub turn_begun :
        {b : Block} {end : Location} → result ≡ Ok (b, end)
        → Leads entries_of_stretch f.job l left.entries (and_then (block_step (limits f.job) f end b left) (onward (stretch (limits f.job) f end (lines (drop end.offset t))))) l₀ k₀ whole
    turn_begun {b} {end} ok = rw (← (begun_here ok).0) at (lead_here (Ok (b, end)) ok)
