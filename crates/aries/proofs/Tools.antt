-- What is proved of tools and of the tally: the hits of a text that is accepted have tools from 1 to 99 (`Sound`, `Refusals`),
-- so that each counts for one of them and no other.
use mathlib.Core.Path.{◌≡◌, refl, ap, ap₂, ◌∙◌, subst}
use mathlib.Core.Bool.{Bool, true, false, cond}
use mathlib.Core.List.{List, [], ◌∷◌}
use Prim.Native.Nat.{ℕ, zero, suc, ◌+◌, ◌-◌, ◌≤◌, ◌<◌}
use native.Mathlib.Omega.{arith}
use lib.ListN.{length}
use borrow.Author.Tests.{eq-eqb, ne_eqb}
use Rattle.aries.specs.declared.entry.Entry.{Entry}
use Rattle.aries.specs.declared.entry.Hit.{Hit}
use Rattle.aries.specs.Numbers.{last_tool}
use Rattle.aries.specs.Entries.{hits_in}
use Rattle.aries.specs.Tally.{is_hit_by, indexes_from, indexes_of, tally_from, tally_of, hits_tallied}
use Rattle.aries.specs.Tools.{AllNamed, ToolsNamed, TallyAddsUp}
use Rattle.aries.proofs.Sound.{HitsNamed}
use Rattle.aries.proofs.Refusals.{TextAnswered, text-answered}

-- ---- Every text

pub tools_named : ToolsNamed
tools_named setting text numbers entries e = subst (TextAnswered text) e (text-answered setting text numbers)

-- ---- The hits of a tool

-- they are as many from whichever index on
as_many : (tool i j : ℕ) (es : List Entry) → length (indexes_from tool i es) ≡ length (indexes_from tool j es)
unfolding indexes_from
as_many tool i j [] = refl
as_many tool i j (e ∷ es) = go (is_hit_by tool e) (as_many tool (suc i) (suc j) es)
  where
    go :
        (t : Bool) → length (indexes_from tool (suc i) es) ≡ length (indexes_from tool (suc j) es)
        → length (cond t (i ∷ indexes_from tool (suc i) es) (indexes_from tool (suc i) es)) ≡ length (cond t (j ∷ indexes_from tool (suc j) es) (indexes_from tool (suc j) es))
    go true h = ap suc h
    go false h = h

-- an entry more: it counts where it is a hit with the tool
counted : (tool : ℕ) (e : Entry) (es : List Entry) → is_hit_by tool e ≡ true → length (indexes_of tool (e ∷ es)) ≡ suc (length (indexes_of tool es))
unfolding indexes_from
counted tool e es h = rw h (ap suc (as_many tool 2 1 es))

passed_over : (tool : ℕ) (e : Entry) (es : List Entry) → is_hit_by tool e ≡ false → length (indexes_of tool (e ∷ es)) ≡ length (indexes_of tool es)
unfolding indexes_from
passed_over tool e es h = rw h (as_many tool 2 1 es)

-- ---- The hits of many tools

-- those of so many tools, from one on
abbrev hits_from : ℕ → ℕ → List Entry → ℕ
hits_from tool n es = hits_tallied (tally_from tool n es)

-- without entries there are none
none_counted : (tool n : ℕ) → hits_from tool n [] ≡ 0
unfolding hits_tallied tally_from indexes_from
none_counted tool zero = refl
none_counted tool (suc n) = omega (arith, none_counted (suc tool) n)

-- an entry that is no hit with one of them does not count
other_counted :
    (tool n : ℕ) (e : Entry) (es : List Entry) → ((t : ℕ) → tool ≤ t → is_hit_by t e ≡ false) → hits_from tool n (e ∷ es) ≡ hits_from tool n es
unfolding hits_tallied tally_from
other_counted tool zero e es h = refl
other_counted tool (suc n) e es h =
    ap₂ ◌+◌ (passed_over tool e es (h tool (omega arith))) (other_counted (suc tool) n e es (λ t k. h t (omega arith)))

-- a hit with one of them, k after the first, counts for that one
hit-counted :
    (tool n k : ℕ) (h : Hit) (es : List Entry) → h.tool ≡ tool + k → k < n → hits_from tool n (Entry.Hit h ∷ es) ≡ suc (hits_from tool n es)
unfolding hits_tallied tally_from
hit-counted tool zero k h es e l = absurd (omega arith)
hit-counted tool (suc n) zero h es e l =
    let here = counted tool (Entry.Hit h) es (eq-eqb h.tool tool (omega arith)) in
    let later = other_counted (suc tool) n (Entry.Hit h) es (λ t a. ne_eqb h.tool t (λ f. omega arith)) in
    omega (arith, here, later)
hit-counted tool (suc n) (suc k) h es e l =
    let here = passed_over tool (Entry.Hit h) es (ne_eqb h.tool tool (λ f. omega arith)) in
    let later = hit-counted (suc tool) n k h es (omega arith) (omega arith) in
    omega (arith, here, later)

-- ---- The tally

-- of entries whose hits have tools from 1 to 99
named-tallied : (es : List Entry) → HitsNamed es → hits_tallied (tally_of es) ≡ length (hits_in es)
unfolding tally_of hits_in AllNamed
named-tallied [] n = none_counted 1 last_tool
named-tallied (Entry.Hit h ∷ es) n = hit-counted 1 last_tool (h.tool - 1) h es (omega (arith, n.0)) (omega (arith, n.1)) ∙ ap suc (named-tallied es n.2)
named-tallied (Entry.Stop optional ∷ es) n = other_counted 1 last_tool (Entry.Stop optional) es (λ t _. refl) ∙ named-tallied es n

pub tally_adds_up : TallyAddsUp
tally_adds_up setting text numbers entries e = named-tallied entries (tools_named setting text numbers entries e)
