-- Demand 1, of refusals: past 1 each has a number from 2 to 18 and the line of a block that is carried out (`Sound`). Of the
-- blocks of bodies too that is a line of the text: wherever a program comes, all that is stored lies within its lines. And the
-- tool that it has chosen is from 1 to 99, so that all hits of a text that is not refused have tools, from which `Tools` goes on.
use Rattle.std.specs.Prelude.{IfSome, Err, None, Ok, Option, Some}
use mathlib.Core.Path.{◌≡◌, refl, sym, ap, ◌∙◌, subst}
use mathlib.Core.Bool.{Bool, true, false, true≢false, ◌&&◌}
use mathlib.Core.List.{List, [], ◌∷◌}
use Prim.Native.Nat.{ℕ, suc, ◌+◌, ◌-◌, ◌≤◌, ◌<◌}
use native.Mathlib.Nat.{add_assoc}
use native.Mathlib.Omega.{arith}
use lib.Dec.{leb, ltb, eqb}
use lib.IntN.{ℤ}
use lib.ListN.{length, length-set, drop}
use lib.Seq.{drop-drop}
use borrow.Author.Tests.{ltb-true, ltb-false, eqb-true, eqb-false, leb-true}
use Rattle.aries.specs.declared.refusal.Refusal.TheVariants.{TextLength, OutOfPlace, NotClosed, StoreFull, TooFar}
use Rattle.aries.specs.declared.block.Layout.{Layout}
use Rattle.aries.specs.declared.machine.Machine.{Machine}
use Rattle.aries.specs.declared.block.Outside.{Outside}
use Rattle.aries.specs.declared.block.Block.{Block}
use Rattle.aries.specs.declared.job.Job.{Job}
use Rattle.aries.specs.declared.macros.Macros.{Macros}
use Rattle.aries.specs.declared.macros.StoredBody.{StoredBody}
use Rattle.aries.specs.declared.point.Point.{Point}
use Rattle.aries.specs.declared.setup.Stage.TheVariants.{Running}
use Rattle.aries.specs.declared.setup.Setup.{Setup}
use Rattle.aries.specs.declared.setup.Program.{Program}
use Rattle.aries.specs.declared.state.Progress.{Progress}
use Rattle.aries.specs.Test.{within}
use Rattle.aries.specs.Outcome.{refusal_number, Out, ◌>>=◌, need}
use Rattle.aries.specs.Letters.{letter_v}
use Rattle.aries.specs.Text.{longest, starts_with, stray_line, without_spaces, lines}
use Rattle.aries.specs.declared.entry.Entry.{Entry}
use Rattle.aries.specs.Entries.{Made, no_entry}
use Rattle.aries.specs.Judging.{Judging, judged, near, limits, lending}
use Rattle.aries.specs.Machine.{named}
use Rattle.aries.specs.Moves.{◌⊕◌}
use Rattle.aries.specs.Macros.{Body, no_macros, bodies_of, body_start, storing, part, characters, most_calls, run_body, call, carry, begin}
use Rattle.aries.specs.Setup.{reference_of, with_origin, set_origin, offset_by, ordinary_frame}
use Rattle.aries.specs.Bodies.{body_size, most_characters, runs_first, first_run, body_from, stored_at, Store, with_stored, open_body}
use Rattle.aries.specs.Reader.{setting_of, reader_of}
use Rattle.aries.specs.Program.{with_progress, with_store, at_stage, fresh_program, in_place, started, settled, carry_outside, carry_out, is_storing, pass_over, run_block_outside, run_line_outside, run_from, is_ended, no_stray, perform, expand}
use Rattle.aries.specs.Refusals.{RefusalOf, RefusalsNamed}
use Rattle.aries.proofs.LineCounts.{lines-some, lines-take, lines_dense, lines_next, stray_inside}
use Rattle.aries.proofs.Storage.{found_fresh, found_other, found_same, storing_out}
use Rattle.aries.proofs.ToolWords.{BlockFits}
use Rattle.aries.proofs.Sound.{LineOf, HitsNamed, Any, Proper, Sound, ToolFits, SoundFrom, BodyOf, BodiesOf, sound_refused, sound_ok, sound_bind, sound_need, sound_given, sound_then, sound_map, begin_proper, carry_sound, call_sound, run_body_sound, copy_part_sound}

-- ---- What is stored

-- each body lies within the lines of the text
pub record StoreOf (last : ℕ) (text : List ℕ) (m : Macros) : Type 0 where
  pub stored : BodiesOf last (bodies_of text m)
  pub paired : length m.starts ≡ length m.ends

module _ (last : ℕ) (text : List ℕ) where
  -- one body more
  storing_of :
      (m : Macros) (n : ℕ) (b : StoredBody) → StoreOf last text m → BodyOf last (record { line = b.line; bytes = part text b.start b.end })
      → StoreOf last text (storing m n b)
  unfolding bodies_of
  storing_of m n b s k = go (ltb n (length m.starts)) refl
    where
      at : n < length m.starts → (i : ℕ) (t : Bool) → eqb i n ≡ t → IfSome (bodies_of text (storing m n b) i) (BodyOf last)
      at h i true e = rw (eqb-true i n e, found_same m n b h (omega (arith, s.paired))) k
      at h i false e = rw (found_other m n i b (eqb-false i n e)) (s.stored i)

      pairs : length (storing m n b).starts ≡ length (storing m n b).ends
      pairs = length-set m.starts n (Some (body_start b)) ∙ s.paired ∙ sym (length-set m.ends n b.end)

      go : (t : Bool) → ltb n (length m.starts) ≡ t → StoreOf last text (storing m n b)
      go true e = record { stored = λ i. at (ltb-true _ _ e) i (eqb i n) refl; paired = pairs }
      go false e =
          let past : length m.starts ≤ n = ltb-false n (length m.starts) e in
          rw (storing_out m n b past (omega (arith, s.paired))) s

  -- ---- U lines

  first_run_sound :
      (j : Judging) (m : Macros) (n : ℕ) (b : Body) (s : Setup) → StoreOf last text m → BodyOf last b → SoundFrom last (first_run j text m n b s)
  unfolding first_run
  first_run_sound j m n b s st k g fits = go (runs_first n s.sheet)
    where
      go : (t : Bool) → Sound {A = Progress} last ToolFits (elim t [ true ↦ run_body j (bodies_of text m) (most_calls - 1) (ordinary_frame s) b g | false ↦ no_entry g ])
      go true = run_body_sound j (bodies_of text m) st.stored (most_calls - 1) (ordinary_frame s) b k g fits
      go false = sound_ok fits

  module _ (j : Judging) (line : ℕ) (h : LineOf last line) where
    -- the body lies within the lines that follow
    body_from_of : (start size : ℕ) → line + suc (length (lines (drop start text))) ≤ suc last → BodyOf last (body_from text start size line)
    unfolding part
    body_from_of start size a =
        record { from = omega arith; to = omega (arith, lines-take (start + size - start) (drop start text)) }

    open_body_sound :
        (n start : ℕ) (ls : List (List ℕ)) (s : Setup) (st : Store) → StoreOf last text st.macros → ToolFits st.progress
        → line + suc (length (lines (drop start text))) ≤ suc last
        → Sound last (λ (r : Store). StoreOf last text r.macros × ToolFits r.progress) (open_body j text n start line ls s st)
    unfolding open_body
    open_body_sound n start ls s st k fits a =
        sound_given Any (body_size (reader_of (ordinary_frame s) st.progress.state) n ls) NotClosed refl h (any (body_size (reader_of (ordinary_frame s) st.progress.state) n ls)) λ size _.
        let b = body_from_of start size a in
        sound_need (leb (characters (stored_at st.macros n start size line)) most_characters) StoreFull refl h
        (sound_map (with_stored (stored_at st.macros n start size line)) _
        (first_run_sound j st.macros n (body_from text start size line) s k b st.progress fits)
        (λ g fits'. (storing_of st.macros n (record { start = start; end = start + size; line = suc line }) k b, fits')))
      where
        any : (o : Option ℕ) → IfSome o Any
        any None = tt
        any (Some size) = tt

  -- ---- Blocks outside bodies

  -- what every program has stored, and the tool that it has chosen
  abbrev Held : Program → Type 0
  Held p = StoreOf last text p.macros × ToolFits p.progress

  settled_sound :
      (j : Judging) (line : ℕ) → LineOf last line → (sheet : Option Layout) (offset : Point) (s : Setup) (p : Program) → Held p
      → Sound last Held (settled p (set_origin j line sheet offset s))
  unfolding set_origin
  settled_sound j line h sheet offset s p k = go (judged j.bounds (near (reference_of sheet ⊕ offset)))
    where
      go : (t : Bool) → Sound last Held (settled p (◌>>=◌ (need t TooFar line) (λ _. Ok (with_origin s sheet offset))))
      go true = sound_ok k
      go false = sound_refused refl h

  started_sound : (p : Program) (q : Point) (line : ℕ) → LineOf last line → (n : Option Machine) → Held p → Sound last Held (started p q line n)
  started_sound p q line h None k = sound_refused refl h
  started_sound p q line h (Some m) k = sound_ok k

  pass_over_sound : (l : List ℕ) (p : Program) → Held p → Sound last Held (pass_over l p)
  pass_over_sound l p k = go (starts_with letter_v l)
    where
      go : (t : Bool) → Sound last Held (elim t as (λ _. Out (Made Program)) [ true ↦ no_entry (at_stage Running p) | false ↦ no_entry p ])
      go true = sound_ok k
      go false = sound_ok k

  -- the lines given are those of the text from the next place on
  module _
      (j : Judging) (next line : ℕ) (h : LineOf last line) (ls : List (List ℕ)) (rest : lines (drop next text) ≡ ls)
      (room : line + suc (length ls) ≤ suc last) where
    carry_outside_sound : (b : Outside) (p : Program) → Held p → Sound last Held (carry_outside j text next line ls b p)
    unfolding carry_outside
    carry_outside_sound (Outside.Machine q) p k = started_sound p q line h (named q) k
    carry_outside_sound Outside.End p k = sound_ok k
    carry_outside_sound (Outside.Offset a) p k = settled_sound j line h p.setup.sheet (offset_by a p.setup.offset) p.setup p k
    carry_outside_sound (Outside.Layout l) p k = settled_sound j line h (Some l) p.setup.offset p.setup p k
    carry_outside_sound (Outside.Open n) p k =
        sound_map (with_store p) _
        (open_body_sound j line h n next ls p.setup (with_stored p.macros p.progress) k.0 k.1 (rw rest room))
        (λ st k'. k')
    carry_outside_sound (Outside.Close n) p k = sound_refused refl h
    carry_outside_sound (Outside.Copy c) p k =
        sound_map (with_progress p) _ (copy_part_sound j (bodies_of text p.macros) k.0.stored line h p.setup c p.progress k.1) (λ g fits. (k.0, fits))

    -- as in a body
    in_body_sound :
        (b : Block) → BlockFits b → (p : Program) → Held p
        → Sound last ToolFits (carry j (call j (bodies_of text p.macros) most_calls) (ordinary_frame p.setup) line b p.progress)
    in_body_sound b own p k =
        carry_sound j _ (call_sound j (bodies_of text p.macros) k.0.stored most_calls) (ordinary_frame p.setup) line h b own p.progress k.1

    carry_out_sound : (b : Block) → BlockFits b → (p : Program) → Held p → Sound last Held (carry_out j text next line ls b p)
    unfolding carry_out
    carry_out_sound (Block.Direct d) own p k = sound_map (with_progress p) _ (in_body_sound (Block.Direct d) own p k) (λ g fits. (k.0, fits))
    carry_out_sound (Block.Call n) own p k = sound_map (with_progress p) _ (in_body_sound (Block.Call n) own p k) (λ g fits. (k.0, fits))
    carry_out_sound (Block.Outside b) own p k = carry_outside_sound b p k

    -- ---- Lines

    run_block_outside_sound : (l : List ℕ) (p : Program) → Held p → Sound last Held (run_block_outside j text next line l ls p)
    unfolding run_block_outside
    run_block_outside_sound l p k =
        sound_bind (begin j (ordinary_frame p.setup) line l p.progress) _ (begin_proper j (ordinary_frame p.setup) line h l p.progress k.1) λ b fits.
        sound_need (in_place p.stage b.block) OutOfPlace refl h (carry_out_sound b.block fits.0 (with_progress p b.progress) (k.0, fits.1))

    run_line_outside_sound : (l : List ℕ) (p : Program) → Held p → Sound last Held (run_line_outside j text next line l ls p)
    run_line_outside_sound [] p k = sound_ok k
    run_line_outside_sound (b ∷ bs) p k = go (is_storing p.stage)
      where
        go : (t : Bool) → Sound last Held (elim t as (λ _. Out (Made Program)) [ true ↦ pass_over (b ∷ bs) p | false ↦ run_block_outside j text next line (b ∷ bs) ls p ])
        go true = pass_over_sound (b ∷ bs) p k
        go false = run_block_outside_sound (b ∷ bs) p k

  run_from_sound :
      (j : Judging) (at line : ℕ) (ls : List (List ℕ)) (p : Program) → lines (drop at text) ≡ ls → 1 ≤ line → line + length ls ≤ suc last → Held p
      → Sound last Held (run_from j text at line ls p)
  unfolding run_from
  run_from_sound j at line [] p e a b k = sound_ok k
  run_from_sound j at line (l ∷ ls) p e a b k =
      sound_then (run_line_outside j text (at + length l + 1) line l ls p) _
      (run_line_outside_sound j (at + length l + 1) line (record { from = a; to = omega arith }) ls next b l p k)
      (λ p' k'. run_from_sound j (at + length l + 1) (suc line) ls p' next (omega arith) (omega arith) k')
    where
      next : lines (drop (at + length l + 1) text) ≡ ls
      next =
          ap (λ (n : ℕ). lines (drop n text)) (add_assoc at (length l) 1)
          ∙ ap lines (sym (drop-drop (length l + 1) at text))
          ∙ lines_next (drop at text) l ls e

-- ---- The text

nothing_stored : (last : ℕ) (text : List ℕ) → StoreOf last text no_macros
unfolding bodies_of
nothing_stored last text = record { stored = λ n. rw (found_fresh n) tt; paired = refl }

within-bounds : (a b x : ℕ) → within a b x ≡ true → (a ≤ x) × (x ≤ b)
within-bounds a b x e = go (leb a x) (leb x b) refl refl e
  where
    go : (p q : Bool) → leb a x ≡ p → leb x b ≡ q → (p && q) ≡ true → (a ≤ x) × (x ≤ b)
    go true true f g e = (leb-true a x f, leb-true x b g)
    go true false f g e = absurd (true≢false (sym e))
    go false q f g e = absurd (true≢false (sym e))

-- what is carried out; it ends in a line of the text
perform_proper :
    (last : ℕ) (job : Job) (text : List ℕ) (end : ℕ) → LineOf last end → length (lines text) ≤ last → Proper last HitsNamed (perform job text end)
unfolding perform
perform_proper last job text end h b =
    go (run_from (limits job) text 0 1 (lines text) (fresh_program job))
    (run_from_sound last text (limits job) 0 1 (lines text) (fresh_program job) refl (omega arith) (omega arith) (nothing_stored last text, omega arith))
  where
    ended : (t : Bool) (entries : List Entry) → HitsNamed entries → Proper last HitsNamed (◌>>=◌ (need t OutOfPlace end) (λ _. Ok entries))
    ended true entries n = record { answered = n }
    ended false entries n = record { answered = (refl, h) }

    go :
        (x : Out (Made Program)) → Sound last (Held last text) x
        → Proper last HitsNamed (◌>>=◌ x (λ m. ◌>>=◌ (need (is_ended m.after.stage) OutOfPlace end) (λ _. Ok m.entries)))
    go (Ok m) k = ended (is_ended m.after.stage) m.entries k.answered.1
    go (Err e) k = record { answered = k.answered }

-- what is known of the answer to a text
abbrev pub TextAnswered : List ℕ → Out (List Entry) → Type 0
TextAnswered text (Ok entries) = HitsNamed entries
TextAnswered text (Err e) = RefusalOf text (refusal_number e.refusal) e.line

module _ (text : List ℕ) where
  -- 2, and what comes after it
  no_stray_proper :
      (x : Out (List Entry)) → Proper (length (lines text)) HitsNamed x
      → Proper (length (lines text)) HitsNamed (◌>>=◌ (no_stray (stray_line 1 text)) (λ _. x))
  no_stray_proper x k = go (stray_line 1 text) refl
    where
      go : (o : Option ℕ) → stray_line 1 text ≡ o → Proper (length (lines text)) HitsNamed (◌>>=◌ (no_stray o) (λ _. x))
      go None e = k
      go (Some line) e =
          let i = stray_inside text 1 line e in
          record { answered = (refl, record { from = i.0; to = omega arith }) }

  -- past 1
  proper_answered : (x : Out (List Entry)) → Proper (length (lines text)) HitsNamed x → TextAnswered text x
  proper_answered (Ok entries) k = k.answered
  proper_answered (Err e) k =
      let n = within-bounds 2 18 (refusal_number e.refusal) k.answered.0 in
      let l = k.answered.1 in
      record {
        numbered = (omega arith, n.1);
        lineless = (λ z. absurd (omega arith), λ z. absurd (omega arith));
        lined = λ _. (l.from, l.to);
      }

  -- 1, and what comes after it
  size-answered :
      (t : Bool) (x : Out (List Entry)) → (t ≡ true → Proper (length (lines text)) HitsNamed x) → TextAnswered text (◌>>=◌ (need t TextLength 0) (λ _. x))
  size-answered true x k = proper_answered x (k refl)
  size-answered false x k = record { numbered = (omega arith, omega arith); lineless = (λ _. refl, λ _. refl); lined = λ other. absurd (other refl) }

-- so every text is answered
pub text-answered : (setting : ℤ) (text : List ℕ) (numbers : ℕ) → TextAnswered text (expand setting text numbers)
unfolding expand
text-answered setting text numbers =
    size-answered text (within 1 longest (length text)) _ λ w.
    let more = lines-some text (within-bounds 1 longest (length text) w).0 in
    no_stray_proper text _ (perform_proper (length (lines text)) (lending (setting_of setting) numbers) (without_spaces text) _ (record { from = more; to = omega arith }) (lines_dense text))

pub refusals_named : RefusalsNamed
refusals_named setting text numbers r e = subst (TextAnswered text) e (text-answered setting text numbers)
