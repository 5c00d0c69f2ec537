-- Laws of `Ran` where the tally is lent too: the list of something carried out with the list alone, and the tally with its hits
-- counted. They have one tool, or there are none.
use Rattle.std.specs.Prelude.{None, Ok, Option, Some}
use mathlib.Core.Path.{◌≡◌, refl, sym, ap, ◌∙◌}
use mathlib.Core.Bool.{Bool, true, false, true≢false}
use mathlib.Core.List.{List, [], ◌∷◌, ◌++◌, append-nil, append_assoc}
use Prim.Native.Nat.{ℕ, suc, ◌+◌, ◌<◌}
use native.Mathlib.Omega.{arith}
use borrow.Author.Tests.{eqb-true}
use lib.IntN.{ℤ}
use lib.ListN.{length, length-append}
use Rattle.aries.specs.declared.job.Job.{Job}
use Rattle.aries.specs.declared.entry.Entry.{Entry}
use Rattle.aries.specs.Outcome.{Out}
use Rattle.aries.specs.Entries.{Made, hits_in}
use Rattle.aries.specs.Tally.{is_hit_by, tally_of}
use Rattle.aries.specs.Runs.{Lent, lent_both, lent, list_put, over, Ran}
use Rattle.aries.specs.Tallying.{too_wide, with_hits, with_chosen, tally_put}
use Rattle.aries.proofs.Tally.{with_no_hits, with_hits_on, put-tally}

-- ---- Entries put, with list and tally lent

-- the list is what it is where it is lent alone
over-list : (l : List ℤ) (t : List ℕ) (k : ℕ) (es : List Entry) → (over (lent_both l t) k es).list ≡ (over (lent l) k es).list
unfolding over
over-list l t k [] = refl
over-list l t k (e ∷ es) =
    over-list (list_put l k e) (tally_put t k e) (k + 1) es ∙ sym (over-list (list_put l k e) (tally_put [] k e) (k + 1) es)

-- an entry is a hit with the tool chosen
abbrev is_hit_chosen : Option ℕ → Entry → Bool
is_hit_chosen None e = false
is_hit_chosen (Some tool) e = is_hit_by tool e

-- entries that are hits with one tool, the one that is chosen; none where none is
abbrev pub AllBy : Option ℕ → List Entry → Type 0
AllBy tool [] = Unit {0}
AllBy tool (e ∷ es) = (is_hit_chosen tool e ≡ true) × AllBy tool es

-- they are counted in one go
over_hits :
    (l : List ℤ) (t : List ℕ) (tool : Option ℕ) (k : ℕ) (es : List Entry) → AllBy tool es
    → (over (lent_both l t) k es).tally ≡ with_chosen t tool k (k + length es)
unfolding over
over_hits l t None k [] all = refl
over_hits l t None k (e ∷ es) all = absurd (true≢false (sym all.0))
over_hits l t (Some tool) k [] all = sym (with_no_hits t tool k (k + 0) (omega arith))
over_hits l t (Some tool) k (Entry.Hit h ∷ es) all =
    let e = eqb-true h.tool tool all.0 in
    ap (λ (m : ℕ). (over (lent_both (list_put l k (Entry.Hit h)) (with_hits t m k (k + 1))) (k + 1) es).tally) e
    ∙ over_hits (list_put l k (Entry.Hit h)) (with_hits t tool k (k + 1)) (Some tool) (k + 1) es all.1
    ∙ with_hits_on t tool k (length es)
over_hits l t (Some tool) k (Entry.Stop optional ∷ es) all = absurd (true≢false (sym all.0))

-- stops are not counted
over_no_hits : (l : List ℤ) (t : List ℕ) (k : ℕ) (es : List Entry) → hits_in es ≡ [] → (over (lent_both l t) k es).tally ≡ t
unfolding over hits_in
over_no_hits l t k [] none = refl
over_no_hits l t k (Entry.Hit h ∷ es) none = let z : suc (length (hits_in es)) ≡ 0 = ap length none in absurd (omega arith)
over_no_hits l t k (Entry.Stop optional ∷ es) none = over_no_hits (list_put l k (Entry.Stop optional)) t (k + 1) es none

-- from the first entry on, the tally is that of all of them
pub over-tally : (l : List ℤ) (a es : List Entry) → length a + length es < too_wide → (over (lent_both l (tally_of a)) (length a) es).tally ≡ tally_of (a ++ es)
unfolding over
over-tally l a [] short = ap tally_of (sym (append-nil a))
over-tally l a (e ∷ es) short =
    let n : length (a ++ e ∷ []) ≡ length a + 1 = length-append a (e ∷ []) in
    ap (λ (t : List ℕ). (over (lent_both (list_put l (length a) e) t) (length a + 1) es).tally) (put-tally a e (omega arith))
    ∙ ap (λ (m : ℕ). (over (lent_both (list_put l (length a) e) (tally_of (a ++ e ∷ []))) m es).tally) (sym n)
    ∙ over-tally (list_put l (length a) e) (a ++ e ∷ []) es (omega arith)
    ∙ ap tally_of (append_assoc a (e ∷ []) es)

-- ---- What was done

module _
    {A : Type 0} {count : A → ℕ} {job : Job} {result : Out A} {l l' : List ℤ} {k : ℕ} {out : Out (Made A)}
    (ran : Ran count job result (lent l) (lent l') k out) (t : List ℕ) where
  -- with the tally as its entries leave it
  ran_with : (t' : List ℕ) → ((m : Made A) → out ≡ Ok m → (over (lent_both l t) k m.entries).tally ≡ t') → Ran count job result (lent_both l t) (lent_both l' t') k out
  ran_with t' tally =
      record {
        same = ran.same;
        written = λ m e.
            ap (λ (r : List ℤ). lent_both r t') (ap (λ (r : Lent). r.list) (ran.written m e) ∙ sym (over-list l t k m.entries))
            ∙ ap (lent_both (over (lent_both l t) k m.entries).list) (sym (tally m e));
        counted = ran.counted;
        fitted = ran.fitted;
      }

  -- its entries are hits with the tool chosen, up to a count of them
  pub ran_hits :
      (tool : Option ℕ) (to : ℕ) → ((m : Made A) → out ≡ Ok m → AllBy tool m.entries) → ((m : Made A) → out ≡ Ok m → to ≡ count m.after)
      → Ran count job result (lent_both l t) (lent_both l' (with_chosen t tool k to)) k out
  ran_hits tool to all upto =
      ran_with (with_chosen t tool k to) λ m e.
      over_hits l t tool k m.entries (all m e) ∙ ap (λ (n : ℕ). with_chosen t tool k n) (sym (ran.counted m e) ∙ sym (upto m e))

  -- or there are none among them
  pub ran_no_hits : ((m : Made A) → out ≡ Ok m → hits_in m.entries ≡ []) → Ran count job result (lent_both l t) (lent_both l' t) k out
  ran_no_hits none = ran_with t (λ m e. over_no_hits l t k m.entries (none m e))
