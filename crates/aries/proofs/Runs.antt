-- Laws of `Ran`: how what a function did is put together from what its callees did.
use Rattle.std.specs.Prelude.{Err, Ok}
use mathlib.Core.Path.{◌≡◌, refl, sym, ap, subst, ◌∙◌}
use mathlib.Core.Bool.{Bool, true, false, cond, ◌&&◌}
use mathlib.Core.List.{List, [], ◌∷◌, ◌++◌}
use Prim.Native.Nat.{ℕ, suc, ◌+◌, ◌-◌, ◌*◌, ◌/◌, ◌≤◌, ◌<◌}
use native.Mathlib.Omega.{arith}
use borrow.Author.Tests.{lt-ltb}
use lib.Dec.{ltb}
use lib.IntN.{ℤ}
use lib.ListN.{length, length-append, length-set}
use Rattle.aries.specs.declared.job.Job.{Job}
use Rattle.aries.specs.declared.refusal.Refused.{Refused}
use Rattle.aries.specs.Outcome.{Out}
use Rattle.aries.specs.declared.entry.Entry.{Entry}
use Rattle.aries.specs.Entries.{Made, no_entry, adding, and_then, map_after}
use Rattle.aries.specs.Test.{within}
use Rattle.aries.specs.Numbers.{last_tool}
use Rattle.aries.specs.Runs.{left_of, Lent, lent_both, lent, write, list_put, put, over, Ran}
use Rattle.aries.specs.Tallying.{hits_noted, tally_put}
use Rattle.aries.proofs.Outcomes.{ok_injective, err≢ok, err_injective}

-- ---- What is lent

pub length-put : (l : Lent) (k : ℕ) (e : Entry) → length (put l k e).list ≡ length l.list
length-put l k e = go (ltb k (length l.list / 4))
  where
    go : (t : Bool) → length (cond t (write l.list k e) l.list) ≡ length l.list
    go true = simp length-set
    go false = refl

pub length_over : (l : Lent) (k : ℕ) (es : List Entry) → length (over l k es).list ≡ length l.list
unfolding over
length_over l k [] = refl
length_over l k (e ∷ es) = length_over (put l k e) (k + 1) es ∙ length-put l k e

-- an entry at a place that the list has
pub put-inside : (l : Lent) (k : ℕ) (e : Entry) → k < length l.list / 4 → (put l k e).list ≡ write l.list k e
put-inside l k e i = rw (lt-ltb k (length l.list / 4) i)

-- a tally that is not lent stays without numbers
none_put : (k : ℕ) (e : Entry) → tally_put [] k e ≡ []
none_put k (Entry.Stop optional) = refl
none_put k (Entry.Hit h) = go (within 1 last_tool h.tool && ltb k (k + 1))
  where
    go : (t : Bool) → cond t (hits_noted [] (3 * (h.tool - 1)) k (k + 1)) [] ≡ []
    go true = refl
    go false = refl

-- an entry where the list alone is lent
pub put-lent : (l : List ℤ) (k : ℕ) (e : Entry) → put (lent l) k e ≡ lent (list_put l k e)
put-lent l k e = ap (lent_both (list_put l k e)) (none_put k e)

-- entries after entries
pub over-append : (l : Lent) (k : ℕ) (a b : List Entry) → over l k (a ++ b) ≡ over (over l k a) (k + length a) b
unfolding over
over-append l k [] b = let e : k ≡ k + 0 = omega arith in ap (λ (n : ℕ). over l n b) e
over-append l k (e ∷ a) b =
    let i : k + 1 + length a ≡ k + suc (length a) = omega arith in
    over-append (put l k e) (k + 1) a b ∙ ap (λ (n : ℕ). over (over (put l k e) (k + 1) a) n b) i

-- ---- What passed was accepted

pub record Accepted {A : Type 0} (a : A) (out : Out (Made A)) : Type 0 where
  pub made : Made A
  pub out_is : out ≡ Ok made
  pub after_is : made.after ≡ a

pub accepted_as : {A : Type 0} (a : A) (out : Out (Made A)) → Ok a ≡ left_of out → Accepted a out
accepted_as a (Ok m) e = record { made = m; out_is = refl; after_is = ok_injective m.after a (sym e) }
accepted_as a (Err r) e = absurd (err≢ok r a (sym e))

-- what is left is what the definitions leave
pub left_is : {A : Type 0} {left : A} {out : Out (Made A)} → Ok left ≡ left_of out → (m : Made A) → out ≡ Ok m → left ≡ m.after
left_is {left = left} same m e = ok_injective left m.after (same ∙ ap left_of e)

-- the refusal that is told
pub refused_out : {A : Type 0} (e : Refused) (out : Out (Made A)) → Err e ≡ left_of out → out ≡ Err e
refused_out e (Ok m) is = absurd (err≢ok e m.after is)
refused_out e (Err r) is = ap (λ (x : Refused). Err x) (sym (err_injective e r is))

-- ---- What was done, as what is to be done

module _ {A : Type 0} {count : A → ℕ} {job : Job} where
  -- a refusal leaves what is lent free
  pub ran-refused : {before after : Lent} {k : ℕ} {e : Refused} → Ran count job (Err e) before after k (Err e)
  ran-refused {e = e} =
      record {
        same = refl;
        written = λ m p. absurd (err≢ok e m p);
        counted = λ m p. absurd (err≢ok e m p);
        fitted = λ m p. absurd (err≢ok e m p);
      }

  -- entries and a result that are made outright
  pub ran-made :
      {m : Made A} {before after : Lent} {k : ℕ} → after ≡ over before k m.entries → count m.after ≡ k + length m.entries
      → (k ≤ job.places → count m.after ≤ job.places) → Ran count job (Ok m.after) before after k (Ok m)
  ran-made {m} {before} {after} {k} written counted fitted =
      record {
        same = refl;
        written = λ n e. written ∙ ap (λ (x : Made A). over before k x.entries) (ok_injective m n e);
        counted = λ n e. subst (λ (x : Made A). count x.after ≡ k + length x.entries) (ok_injective m n e) counted;
        fitted = λ n e. subst (λ (x : Made A). k ≤ job.places → count x.after ≤ job.places) (ok_injective m n e) fitted;
      }

  -- no entry is made
  pub ran_no_entry : {a : A} {l : Lent} → Ran count job (Ok a) l l (count a) (no_entry a)
  unfolding over
  ran_no_entry {a} {l} = ran-made {m = record { entries = []; after = a }} refl (omega arith) (λ h. h)

  -- ---- One thing after the other

  -- a refusal ends it
  pub ran_ended :
      {before after before' after' : Lent} {k k' : ℕ} {e : Refused} (first : Out (Made A)) (rest : A → Out (Made A))
      → Ran count job (Err e) before after k first → Ran count job (Err e) before' after' k' (and_then first rest)
  ran_ended {e = e} first rest h = rw (refused_out e first h.same) ran-refused

  join :
      (m : Made A) (out : Out (Made A)) {result : Out A} {before mid after : Lent} {k : ℕ}
      → mid ≡ over before k m.entries → count m.after ≡ k + length m.entries → (k ≤ job.places → count m.after ≤ job.places)
      → Ran count job result mid after (count m.after) out → Ran count job result before after k (adding m.entries out)
  join m (Err e) w c f h = rw h.same ran-refused
  join m (Ok n) {before = before} {mid} {after} {k} w c f h =
      rw h.same (ran-made {m = record { entries = m.entries ++ n.entries; after = n.after }} written counted fitted)
    where
      written : after ≡ over before k (m.entries ++ n.entries)
      written =
          h.written n refl
          ∙ ap (λ (l : Lent). over l (count m.after) n.entries) w
          ∙ ap (λ (j : ℕ). over (over before k m.entries) j n.entries) c
          ∙ sym (over-append before k m.entries n.entries)

      counted : count n.after ≡ k + length (m.entries ++ n.entries)
      counted =
          let e : count n.after ≡ count m.after + length n.entries = h.counted n refl in
          let a : length (m.entries ++ n.entries) ≡ length m.entries + length n.entries = length-append m.entries n.entries in
          omega arith

      fitted : k ≤ job.places → count n.after ≤ job.places
      fitted r = h.fitted n refl (f r)

  -- what passed leads on to the rest
  pub ran_then :
      {now : A} {result : Out A} {before mid after : Lent} {k : ℕ} (first : Out (Made A)) (rest : A → Out (Made A))
      → Ran count job (Ok now) before mid k first → Ran count job result mid after (count now) (rest now)
      → Ran count job result before after k (and_then first rest)
  ran_then {now} {result} {before} {mid} {after} {k} first rest h i =
      let a = accepted_as now first h.same in
      rw a.out_is
      (join a.made (rest a.made.after) (h.written a.made a.out_is) (h.counted a.made a.out_is) (h.fitted a.made a.out_is)
      (subst (λ (x : A). Ran count job result mid after (count x) (rest x)) (sym a.after_is) i))

-- ---- The result seen as part of something larger

-- a result, seen so, or the refusal
abbrev pub mapped : {A B : Type 0} → (A → B) → Out A → Out B
mapped f (Ok a) = Ok (f a)
mapped f (Err e) = Err e

pub ran-map :
    {A B : Type 0} {count_a : A → ℕ} {countB : B → ℕ} {job : Job} {result : Out A} {before after : Lent} {k : ℕ} (f : A → B)
    → ((a : A) → countB (f a) ≡ count_a a) → (out : Out (Made A))
    → Ran count_a job result before after k out → Ran countB job (mapped f result) before after k (map_after f out)
ran-map f same (Err e) h = rw h.same ran-refused
ran-map {count_a = count_a} {countB} {job} {k = k} f same (Ok m) h =
    rw h.same
    (ran-made {m = record { entries = m.entries; after = f m.after }} (h.written m refl)
    (same m.after ∙ h.counted m refl)
    (λ r. let g : count_a m.after ≤ job.places = h.fitted m refl r in let e = same m.after in omega (arith, e)))

-- nothing done and then the rest is the rest
pub no_entry_then : {A : Type 0} (a : A) (f : A → Out (Made A)) → and_then (no_entry a) f ≡ f a
no_entry_then {A} a f = go (f a)
  where
    go : (out : Out (Made A)) → adding [] out ≡ out
    go (Ok m) = refl
    go (Err e) = refl

-- ---- Loops: whoever does what is left, from this place on, has done the whole

abbrev pub Leads : {A : Type 0} → (A → ℕ) → Job → Lent → ℕ → Out (Made A) → Lent → ℕ → Out (Made A) → Type 0
Leads {A} count job l k rest l₀ k₀ whole =
    (result : Out A) (after : Lent) → Ran count job result l after k rest → Ran count job result l₀ after k₀ whole

module _ {A : Type 0} {count : A → ℕ} {job : Job} {l₀ : Lent} {k₀ : ℕ} {whole : Out (Made A)} where
  -- at the start all is left
  pub leads-start : {rest : Out (Made A)} → rest ≡ whole → Leads count job l₀ k₀ rest l₀ k₀ whole
  leads-start e result after h = rw e at h

  -- what is left, by another name
  pub leads_as :
      {l : Lent} {k : ℕ} {rest rest' : Out (Made A)} → rest' ≡ rest → Leads count job l k rest' l₀ k₀ whole → Leads count job l k rest l₀ k₀ whole
  leads_as e lead = rw e at lead

  -- a turn that passed
  pub leads_on :
      {now : A} {l mid : Lent} {k : ℕ} (first : Out (Made A)) (rest : A → Out (Made A)) → Ran count job (Ok now) l mid k first
      → Leads count job l k (and_then first rest) l₀ k₀ whole → Leads count job mid (count now) (rest now) l₀ k₀ whole
  leads_on first rest ran lead result after h = lead result after (ran_then first rest ran h)

  -- a turn that was refused
  pub leads_out :
      {l after : Lent} {k : ℕ} {e : Refused} (first : Out (Made A)) (rest : A → Out (Made A)) → Ran count job (Err e) l after k first
      → Leads count job l k (and_then first rest) l₀ k₀ whole → Ran count job (Err e) l₀ after k₀ whole
  leads_out {after = after} {e = e} first rest ran lead = lead (Err e) after (ran_ended first rest ran)

  -- nothing is left
  pub leads_end : {now : A} {l : Lent} → Leads count job l (count now) (no_entry now) l₀ k₀ whole → Ran count job (Ok now) l₀ l k₀ whole
  leads_end {now} {l} lead = lead (Ok now) l ran_no_entry

-- ---- A result that is told

pub ran_as :
    {A : Type 0} {count : A → ℕ} {job : Job} {result result' : Out A} {before after : Lent} {k : ℕ} {out : Out (Made A)} → result ≡ result'
    → Ran count job result before after k out → Ran count job result' before after k out
ran_as e ran = rw e at ran
