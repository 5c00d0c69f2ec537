-- The lines of a text stretch by stretch, while the program runs: what direct blocks one after another make, and then the
-- block that they end at and the lines behind it.
use Rattle.std.specs.Prelude.{Ok, Err, Option, Some, None, IfOk}
use mathlib.Core.Path.{◌≡◌, refl, sym, ap, fun_ext, subst, ◌∙◌}
use mathlib.Core.List.{List, [], ◌∷◌, ◌++◌, append_assoc}
use Prim.Native.Nat.{ℕ, suc, ◌+◌, ◌≤◌}
use native.Mathlib.Omega.{arith}
use lib.ListN.{length, drop}
use Rattle.aries.specs.declared.block.Block.{Block}
use Rattle.aries.specs.declared.block.Call.{Call}
use Rattle.aries.specs.declared.block.Outside.{Outside}
use Rattle.aries.specs.declared.entry.Entry.{Entry}
use Rattle.aries.specs.declared.location.Location.{Location}
use Rattle.aries.specs.declared.macros.Macros.{Macros}
use Rattle.aries.specs.declared.refusal.Refused.{Refused}
use Rattle.aries.specs.declared.setup.Program.{Program}
use Rattle.aries.specs.declared.setup.Setup.{Setup}
use Rattle.aries.specs.declared.setup.Stage.{Stage}
use Rattle.aries.specs.declared.setup.Stage.TheVariants.{Running}
use Rattle.aries.specs.declared.state.Progress.{Progress}
use Rattle.aries.specs.Outcome.{Out, ◌>>=◌}
use Rattle.aries.specs.Text.{lines}
use Rattle.aries.specs.Entries.{Made, no_entry, adding, and_then, map_after}
use Rattle.aries.specs.Judging.{Judging, limits}
use Rattle.aries.specs.Macros.{carry_direct, carry, Begun, begin}
use Rattle.aries.specs.Program.{with_progress, at_stage, carry_out, run_block_outside, run_line_outside, run_from}
use Rattle.aries.specs.Runs.{Lent, entries_of_program, Ran}
use Rattle.aries.specs.Setup.{ordinary_frame}
use Rattle.aries.proofs.Runs.{accepted_as, ran_then, ran-map, no_entry_then, refused_out}
use Rattle.stretches.specs.declared.Sequel.{Sequel}
use Rattle.stretches.specs.Stretches.{Stretch}
use Rattle.stretches.specs.Stretches.{going, block_step, line_step, onward, end_of, behind, stretch, entries_of_stretch}
use Rattle.stretches.proofs.Sequels.{Behind, SequelBehind, StretchBehind, stretch-behind, left_made, first-line}
use Rattle.stretches.proofs.Nearness.{SequelNear, StretchNear, stretch-near}
use Rattle.turns.specs.declared.turn.Called.TheVariants.{Macro}
use Rattle.turns.specs.declared.turn.Next.{Next}
use Rattle.turns.specs.declared.turn.Next.TheVariants.{Line, Run}
use Rattle.turns.specs.Turns.{Turn, placed, lines_from, left_of, left_after, place_of, Near, NextNear, Quiet, Settles}
use Rattle.program.specs.Lines.{InText, Beyond, Turns}
use Rattle.program.proofs.RunFrom.{text_end, from_end}

-- ---- A stretch, and then what follows it

abbrev pub through : Out (Made Stretch) → (Stretch → Out (Made Program)) → Out (Made Program)
through (Err e) f = Err e
through (Ok m) f = adding m.entries (f m.after)

-- entries, and then entries
adding_again : {A : Type 0} (a b : List Entry) (out : Out (Made A)) → adding a (adding b out) ≡ adding (a ++ b) out
adding_again a b (Err e) = refl
adding_again a b (Ok m) = ap (λ (l : List Entry). Ok (record { entries = l; after = m.after })) (sym (append_assoc a b m.entries))

adding-through : (es : List Entry) (out : Out (Made Stretch)) (f : Stretch → Out (Made Program)) → adding es (through out f) ≡ through (adding es out) f
adding-through es (Err e) f = refl
adding-through es (Ok m) f = adding_again es m.entries (f m.after)

-- what passed leads on to what follows
ran_through :
    (p : Program) {x : Stretch} {result : Out Program} {before mid after : Lent} {k : ℕ} (first : Out (Made Stretch)) (rest : Stretch → Out (Made Program))
    → Ran entries_of_stretch p.setup.job (Ok x) before mid k first → Ran entries_of_program p.setup.job result mid after x.progress.entries (rest x)
    → Ran entries_of_program p.setup.job result before after k (through first rest)
ran_through p {x} {result} {before} {mid} {after} {k} first rest h i =
    let job = p.setup.job in
    let a = accepted_as x first h.same in
    let to : Stretch → Program = λ (y : Stretch). with_progress p y.progress in
    let whole : Ran entries_of_program job result before after k (and_then (map_after to first) (λ q. rest x)) = ran_then (map_after to first) (λ q. rest x) (ran-map to (λ y. refl) first h) i in
    subst (λ (y : Stretch). Ran entries_of_program job result before after k (through first rest)) a.after_is
    (rw a.out_is (subst (λ (y : Stretch). Ran entries_of_program job result before after k (adding a.made.entries (rest y))) (sym a.after_is) (rw a.out_is at whole)))

-- ---- The lines, stretch by stretch

module _ (j : Judging) (t : List ℕ) where
  -- a block, and then the lines behind it
  abbrev pub block_then : Location → Block → Program → Out (Made Program)
  block_then end b p = and_then (placed j t end b p) (lines_from j t end)

  -- what follows a stretch
  abbrev pub following_by : Option Sequel → Program → Out (Made Program)
  following_by None p = no_entry p
  following_by (Some (Sequel.Call c end)) p = block_then end (Block.Call c) p
  following_by (Some (Sequel.Outside o end)) p = block_then end (Block.Outside o) p

  abbrev pub following : Program → Stretch → Out (Made Program)
  following p x = following_by x.sequel (with_progress p x.progress)

module _ (j : Judging) (t : List ℕ) (s : Setup) (m : Macros) where
  -- a program that runs
  abbrev running : Progress → Program
  running g = record { stage = Running; setup = s; macros = m; progress = g }

  abbrev follows : Stretch → Out (Made Program)
  follows x = following j t (running x.progress) x

  -- a line, and what follows it
  line-all :
      (end : Location) (l : List ℕ) (g : Progress) (later : Progress → Out (Made Stretch)) (rest : Program → Out (Made Program))
      → ((g : Progress) → rest (running g) ≡ through (later g) follows) → ((p : Program) → rest p ≡ lines_from j t end p)
      → and_then (run_line_outside j t (end.offset + 1) end.line l (lines (drop (end.offset + 1) t)) (running g)) rest
      ≡ through (and_then (line_step j (ordinary_frame s) end l g) (onward later)) follows
  unfolding run_block_outside placed carry_out carry
  line-all end [] g later rest same past = ap (adding []) (same g) ∙ adding-through [] (later g) follows
  line-all end (b ∷ bs) g later rest same past = begins (begin j (ordinary_frame s) end.line (b ∷ bs) g)
    where
      carried : (out : Out (Made Progress)) → and_then (map_after running out) rest ≡ through (and_then (map_after going out) (onward later)) follows
      carried (Ok n) = ap (adding n.entries) (same n.after) ∙ adding-through n.entries (later n.after) follows
      carried (Err e) = refl

      others : (d : Block) (g : Progress) → and_then (placed j t end d (running g)) rest ≡ adding [] (block_then j t end d (running g))
      others d g =
          ap (and_then (placed j t end d (running g))) (fun_ext past)
          ∙ sym (no_entry_then (running g) (block_then j t end d))

      blocks : (d : Block) (g : Progress) → and_then (placed j t end d (running g)) rest ≡ through (and_then (block_step j (ordinary_frame s) end d g) (onward later)) follows
      blocks (Block.Direct d) g = carried (carry_direct j (ordinary_frame s) end.line d g)
      blocks (Block.Call n) g = others (Block.Call n) g
      blocks (Block.Outside o) g = others (Block.Outside o) g

      begins :
          (out : Out Begun)
          → and_then (◌>>=◌ out (λ x. placed j t end x.block (running x.progress))) rest
          ≡ through (and_then (◌>>=◌ out (λ x. block_step j (ordinary_frame s) end x.block x.progress)) (onward later)) follows
      begins (Err e) = refl
      begins (Ok x) = blocks x.block x.progress

  lines-all :
      (ls : List (List ℕ)) (at : Location) (g : Progress) → lines (drop at.offset t) ≡ ls
      → run_from j t at.offset at.line ls (running g) ≡ through (stretch j (ordinary_frame s) at ls g) follows
  unfolding run_from stretch
  lines-all [] at g e = refl
  lines-all (l ∷ ls) at g e =
      let w = first-line t at.offset l ls e in
      let end = end_of at (length l) in
      ap (λ (k : List (List ℕ)). and_then (run_line_outside j t (end.offset + 1) at.line l k (running g)) (run_from j t (end.offset + 1) (suc at.line) ls)) (sym w.1)
      ∙ line-all end l g (stretch j (ordinary_frame s) (behind end) ls) (run_from j t (end.offset + 1) (suc at.line) ls)
      (λ h. lines-all ls (behind end) h w.1)
      (λ p. ap (λ (k : List (List ℕ)). run_from j t (end.offset + 1) (suc at.line) k p) (sym w.1) ∙ from_end j t end p w.2)

-- the lines from a place on, while the program runs
pub lines_stretched :
    (j : Judging) (t : List ℕ) (at : Location) (p : Program) → p.stage ≡ Running
    → lines_from j t at p ≡ through (stretch j (ordinary_frame p.setup) at (lines (drop at.offset t)) p.progress) (following j t p)
lines_stretched j t at p runs =
    subst
    (λ (stage : Stage).
    lines_from j t at (at_stage stage p) ≡ through (stretch j (ordinary_frame p.setup) at (lines (drop at.offset t)) p.progress) (following j t (at_stage stage p)))
    (sym runs) (lines-all j t p.setup p.macros (lines (drop at.offset t)) at p.progress refl)

-- a call is in its place
called_placed :
    (j : Judging) (t : List ℕ) (p : Program) → p.stage ≡ Running → (c : Call) (end : Location) → left_of j t (Run (Macro c) end) p ≡ block_then j t end (Block.Call c) p
unfolding placed
called_placed j t p runs c end = rw runs refl

-- ---- A stretch that was carried out

-- the end of the text, in a line of a number that is of no account
abbrev pub text_ends : List ℕ → Location → Location
text_ends t from = record { offset = length t; line = from.line }

-- the end of a line that comes after it lies further on
pub behind-beyond : (t : List ℕ) (from end : Location) → from.line ≤ from.offset + 1 → Behind t from end → Beyond t from end
behind-beyond t from end n b = record { further = b.after; inside = omega (arith, b.inside); numbered = omega (arith, n, b.paced) }

module _ (t : List ℕ) (from : Location) (p : Program) (runs : p.stage ≡ Running) where
  abbrev pub here : Out (Made Stretch)
  here = stretch (limits p.setup.job) (ordinary_frame p.setup) from (lines (drop from.offset t)) p.progress

  -- it was refused
  pub stretch-refused :
      {e : Refused} {before after : Lent} → Ran entries_of_stretch p.setup.job (Err e) before after p.progress.entries here → Turns (Err e) t from p before after
  stretch-refused {e} ran =
      lines_stretched (limits p.setup.job) t from p runs ∙ ap (λ (o : Out (Made Stretch)). through o (following (limits p.setup.job) t p)) (refused_out e here ran.same)

  module _ {x : Stretch} {before after : Lent} (ran : Ran entries_of_stretch p.setup.job (Ok x) before after p.progress.entries here) where
    -- what it leaves: the letters given, and a call that comes after it,
    pub left-near : Near p → StretchNear x
    left-near n = left_made here ran.same (stretch-near (limits p.setup.job) (ordinary_frame p.setup) (lines (drop from.offset t)) from p.progress n.1)

    -- and where that lies
    left-behind : StretchBehind t from x
    left-behind = left_made here ran.same (stretch-behind t (limits p.setup.job) (ordinary_frame p.setup) from p.progress)

    -- whoever does what follows has done the whole
    pub stretch-passed :
        (out : Out Turn) (end : Location) → Near p → Beyond t from end → left_after (limits p.setup.job) t out ≡ following (limits p.setup.job) t p x
        → IfOk out (Quiet end (with_progress p x.progress)) → Turns out t from p before after
    stretch-passed (Err e) end n far same quiet =
        let a = accepted_as x here ran.same in
        lines_stretched (limits p.setup.job) t from p runs
        ∙ ap (λ (o : Out (Made Stretch)). through o (following (limits p.setup.job) t p)) a.out_is
        ∙ ap (λ (y : Stretch). adding a.made.entries (following (limits p.setup.job) t p y)) a.after_is
        ∙ ap (adding a.made.entries) (sym same)
    stretch-passed (Ok r) end n far same quiet =
        record {
          leads = λ result last h.
              rw (lines_stretched (limits p.setup.job) t from p runs)
              (ran_through p here (following (limits p.setup.job) t p) ran (rw (same, quiet.entries) at h));
          job = quiet.job;
          comes = subst (Beyond t from) (sym quiet.comes) far;
          near = λ k. quiet.near (k.0, (left-near k).given);
        }

    -- to a place
    abbrev passed_to : Next → Turn
    passed_to next = record { program = with_progress p x.progress; next = next }

    quiet-to : (next : Next) → NextNear next → Quiet (place_of next) (with_progress p x.progress) (passed_to next)
    quiet-to next n = record { entries = refl; job = refl; comes = refl; near = λ k. (k, n) }

    -- by what comes after it: the end of the text,
    pub stretch-ended : InText t from → Near p → x.sequel ≡ None → Turns (Ok (passed_to (Line (text_ends t from)))) t from p before after
    stretch-ended i n e =
        stretch-passed (Ok (passed_to (Line (text_ends t from)))) (text_ends t from) n
        (record { further = i.inside; inside = omega arith; numbered = omega (arith, i.inside, i.numbered) })
        (text_end (limits p.setup.job) t (text_ends t from) (with_progress p x.progress) (omega arith) ∙ ap (λ (s : Option Sequel). following_by (limits p.setup.job) t s (with_progress p x.progress)) (sym e))
        (quiet-to (Line (text_ends t from)) tt)

    -- a call,
    pub stretch-called : InText t from → Near p → {c : Call} {end : Location} → x.sequel ≡ Some (Sequel.Call c end) → Turns (Ok (passed_to (Run (Macro c) end))) t from p before after
    stretch-called i n {c} {end} e =
        stretch-passed (Ok (passed_to (Run (Macro c) end))) end n (behind-beyond t from end i.numbered (subst (SequelBehind t from) e left-behind))
        (called_placed (limits p.setup.job) t (with_progress p x.progress) runs c end ∙ ap (λ (s : Option Sequel). following_by (limits p.setup.job) t s (with_progress p x.progress)) (sym e))
        (quiet-to (Run (Macro c) end) (subst SequelNear e (left-near n).sequel))

    -- or a block that stands only outside bodies
    pub stretch-settled :
        InText t from → Near p → {o : Outside} {end : Location} → x.sequel ≡ Some (Sequel.Outside o end) → (out : Out Turn)
        → Settles out end (Block.Outside o) (with_progress p x.progress) → Turns out t from p before after
    stretch-settled i n {o} {end} e out settled =
        stretch-passed out end n (behind-beyond t from end i.numbered (subst (SequelBehind t from) e left-behind))
        (settled.same t ∙ ap (λ (s : Option Sequel). following_by (limits p.setup.job) t s (with_progress p x.progress)) (sym e))
        settled.quiet
