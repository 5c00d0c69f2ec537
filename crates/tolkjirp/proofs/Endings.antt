-- How a text ends: the answer of `perform` and of `expand`, with the list and the tally that they leave.
use Rattle.std.specs.Prelude.{Option, Some, None, Ok, Err}
use mathlib.Core.Path.{◌≡◌, refl, sym, ap, subst, ◌∙◌}
use mathlib.Core.Bool.{true, false}
use mathlib.Core.List.{List, [], ◌++◌}
use Prim.Native.Nat.{ℕ, ◌-◌, ◌*◌, ◌/◌, ◌<◌, ◌≤◌}
use native.Mathlib.Omega.{arith}
use lib.IntN.{ℤ, pos}
use lib.ListN.{length, take, replicate}
use Rattle.aries.specs.declared.entry.Entry.{Entry}
use Rattle.aries.specs.declared.job.Job.{Job}
use Rattle.aries.specs.declared.reader.Setting.{Setting}
use Rattle.aries.specs.declared.refusal.Refusal.TheVariants.{TextLength, StrayByte, OutOfPlace}
use Rattle.aries.specs.declared.refusal.Refused.{Refused}
use Rattle.aries.specs.declared.setup.Program.{Program}
use Rattle.aries.specs.Outcome.{Out, refused}
use Rattle.aries.specs.Text.{lines, stray_line, without_spaces}
use Rattle.aries.specs.Entries.{Made}
use Rattle.aries.specs.Judging.{lending, limits}
use Rattle.aries.specs.Program.{fresh_program, is_ended, run_from, perform, expand, list_of, tally_for}
use Rattle.aries.specs.Runs.{Lent, lent_both, over, entries_of_program, Ran}
use Rattle.aries.specs.Tally.{no_tally}
use Rattle.aries.specs.Tallying.{too_wide}
use Rattle.aries.proofs.Outcomes.{err≢ok, err_injective}
use Rattle.aries.proofs.Runs.{Accepted, accepted_as, refused_out}
use Rattle.aries.proofs.Tally.{tally_none}
use Rattle.aries.proofs.Tallied.{over-tally}
use Rattle.text.specs.Cleaning.{cleaned}
use Rattle.tolkjirp.specs.Answers.{Accepts, Answers}
use Rattle.tolkjirp.specs.Cleaned.{after_cleaning}
use Rattle.tolkjirp.proofs.Lists.{cleared, cleared_past}

-- ---- A text that is refused, and one that is accepted

-- a refusal leaves list and tally free
pub accepts-refused : {list : List ℤ} {tally : List ℕ} {numbers : ℕ} {out : Out (List Entry)} {e : Refused} → out ≡ Err e → Accepts (Err e) list tally numbers out
accepts-refused {e = e} is =
    rw is (record { answered = refl; listed = λ entries q. absurd (err≢ok e entries q); tallied = λ entries q. absurd (err≢ok e entries q) })

-- ---- The blocks of a text

module _ (setting : Setting) (list after : List ℤ) (tally : List ℕ) (text : List ℕ) (last : ℕ) where
  abbrev job : Job
  job = lending setting (length list)

  abbrev run : Out (Made Program)
  run = run_from (limits job) text 0 1 (lines text) (fresh_program job)

  -- a refusal on the way
  pub perform-refused : {e : Refused} → Ran entries_of_program job (Err e) (lent_both list no_tally) (lent_both after tally) 0 run → perform job text last ≡ Err e
  unfolding perform
  perform-refused {e} ran = simp (refused_out e run ran.same)

  module _ {left : Program} (ran : Ran entries_of_program job (Ok left) (lent_both list no_tally) (lent_both after tally) 0 run) where
    made : Accepted left run
    made = accepted_as left run ran.same

    -- no G50 has come
    pub perform-unended : is_ended left.stage ≡ false → perform job text last ≡ refused OutOfPlace last
    unfolding perform
    perform-unended e = let f : is_ended made.made.after.stage ≡ false = rw made.after_is e in simp (made.out_is, f)

    -- the entries have places
    pub entries_fit : left.progress.entries ≤ length list / 4
    entries_fit = subst (λ (p : Program). p.progress.entries ≤ length list / 4) made.after_is (ran.fitted made.made made.out_is (omega arith))

    -- the entries, with the rest of the list cleared
    pub perform-entries :
        (final : List ℤ) → is_ended left.stage ≡ true → length after ≡ length list → length list / 4 < too_wide → final ≡ cleared after (left.progress.entries * 4)
        → Answers (Ok left.progress.entries) final tally (length list) (perform job text last)
    unfolding perform list_of tally_for
    perform-entries final e n short l =
        let m = made.made in
        let f : is_ended m.after.stage ≡ true = rw made.after_is e in
        let o : perform job text last ≡ Ok m.entries = simp (made.out_is, f) in
        let c : left.progress.entries ≡ length m.entries = omega (arith, ran.counted m made.out_is, ap (λ (p : Program). p.progress.entries) made.after_is) in
        let fit : length m.entries ≤ length list / 4 = omega (arith, entries_fit) in
        rw o (record {
          answered = ap (λ (k : ℕ). Ok k) c;
          listed =
              l
              ∙ ap (λ (k : ℕ). cleared after (k * 4)) c
              ∙ ap (λ (k : ℕ). take (length m.entries * 4) after ++ replicate (k - length m.entries * 4) (pos 0)) n
              ∙ ap (λ (r : Lent). take (length m.entries * 4) r.list ++ replicate (length list - length m.entries * 4) (pos 0)) (ran.written m made.out_is)
              ∙ cleared_past (lent_both list no_tally) m.entries fit;
          tallied =
              ap (λ (r : Lent). r.tally) (ran.written m made.out_is)
              ∙ ap (λ (t : List ℕ). (over (lent_both list t) 0 m.entries).tally) (sym tally_none)
              ∙ over-tally list [] m.entries (omega arith);
        })

    pub perform-accepts :
        (final : List ℤ) → is_ended left.stage ≡ true → length after ≡ length list → length list / 4 < too_wide → final ≡ cleared after (left.progress.entries * 4)
        → Accepts (Ok left.progress.entries) final tally (length list) (perform job text last)
    perform-accepts final e n short l =
        let a = perform-entries final e n short l in
        record { answered = a.answered; listed = λ entries q. a.listed; tallied = λ entries q. a.tallied }

-- ---- The ways out of an expansion

-- what cleaning answers tells whether a byte is stray
pub stray_found : (found : Option ℕ) (dense : List ℕ) (line : ℕ) → cleaned found dense ≡ refused StrayByte line → found ≡ Some line
stray_found (Some l) dense line e = ap (λ (r : Refused). Some r.line) (err_injective _ _ e)
stray_found None dense line e = absurd (err≢ok _ _ (sym e))

module _ (setting : Setting) (text : List ℕ) (numbers : ℕ) where
  pub after_stray : {line : ℕ} → stray_line 1 text ≡ Some line → after_cleaning setting text numbers ≡ refused StrayByte line
  after_stray e = simp e

  pub after_dense : stray_line 1 text ≡ None → after_cleaning setting text numbers ≡ perform (lending setting numbers) (without_spaces text) (length (lines text))
  after_dense e = simp e

pub expand_empty : (setting : ℤ) (text : List ℕ) (numbers : ℕ) → length text ≡ 0 → expand setting text numbers ≡ refused TextLength 0
unfolding expand
expand_empty setting text numbers e = simp e
