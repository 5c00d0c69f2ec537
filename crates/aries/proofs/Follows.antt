-- One thing carried out twice: y without limits on blocks and places, and x where more may be judged, from a state moved by
-- a vector and in other mirrors, whatever was counted before. The relation, and what it comes to where things are carried out one
-- after the other.
use Rattle.std.specs.Prelude.{Ok, None, Option, Some, Err}
use mathlib.Core.Path.{◌≡◌, refl, sym, ◌∙◌, subst}
use mathlib.Core.Bool.{Bool, true, false, true≢false}
use mathlib.Core.List.{List, [], ◌∷◌, ◌++◌, map, map-append}
use Prim.Native.Nat.{ℕ}
use Rattle.aries.specs.declared.refusal.Refused.{Refused}
use Rattle.aries.specs.declared.refusal.Refusal.{Refusal}
use Rattle.aries.specs.declared.point.Point.{Point}
use Rattle.aries.specs.declared.state.State.{State}
use Rattle.aries.specs.declared.mirror.Mirror.{Mirror}
use Rattle.aries.specs.declared.state.Frame.{Frame}
use Rattle.aries.specs.declared.state.Progress.{Progress}
use Rattle.aries.specs.Outcome.{Out, ◌>>=◌, need, given}
use Rattle.aries.specs.declared.entry.Entry.{Entry}
use Rattle.aries.specs.Entries.{placed_by, Made, no_entry, adding, and_then, map_after}
use Rattle.aries.specs.Judging.{Judging, room}
use Rattle.aries.specs.Mirrors.{seen}
use Rattle.aries.specs.Moves.{◌⊕◌}
use Rattle.aries.proofs.Counts.{Counts, counts_of, nothing, ◌⊞◌, another_block, another_entry, one_block, one_entry, Up, up_nothing, up_block, up_entry, up_joined, Fit, fit_nothing, fit_block, fit_entry, block-fits, entry_fits, fit_front, fit_back, fit_joined}

-- ---- Moved by a vector

abbrev pub moved_waiting : Point → Option Point → Option Point
moved_waiting v None = None
moved_waiting v (Some p) = Some (p ⊕ v)

-- current point and waiting origin, nothing else
abbrev pub moved_state : Point → State → State
moved_state v s =
    record {
      current = s.current ⊕ v;
      waiting = moved_waiting v s.waiting;
      incremental = s.incremental;
      nibble = s.nibble;
      tool = s.tool;
      memories = s.memories;
      spans = s.spans;
    }

-- the origin, whatever the places of the list and the mirrors are; the setting stays
abbrev pub moved_frame : Point → ℕ → Mirror → Frame → Frame
moved_frame v places m f =
    record { job = record { setting = f.job.setting; places = places }; machine = f.machine; origin = f.origin ⊕ v; mirror = m }

-- How states are moved, and where hits are made in place of the hits of y.
pub record Motion : Type 0 where
  pub by : Point
  pub to : Point → Point

-- everything by a vector
abbrev pub translation : Point → Motion
translation v = record { by = v; to = λ p. p ⊕ v }

-- in mirrors m a moved point is seen where the motion puts what is seen of the point
abbrev pub Sees : Motion → ℕ → Frame → Mirror → Type 0
Sees v places f m = (p : Point) → seen (moved_frame v.by places m f) (p ⊕ v.by) ≡ v.to (seen f p)

-- ---- A state with counts

abbrev pub progress : State → Counts → Progress
progress s n = record { state = s; blocks = n.blocks; entries = n.entries }

abbrev pub made : List Entry → State → Counts → Made Progress
made es s n = record { entries = es; after = progress s n }

-- ---- The relation

-- a test and one that is passed wherever it is; where E holds, the two are the same
pub data Looser (E : Type 0) : Bool → Bool → Type 0 where
  alike : {t : Bool} → Looser E t t
  dropped : (E → ⊥) → Looser E false true

-- Both are refused; or both are accepted, x with entries and state moved and both with counts that go up by as many; or x
-- alone is refused, though where E holds only when what is counted does not fit. The counts before were n and n'.
pub data Follows (E : Type 0) (j : Judging) (v : Motion) (n n' : Counts) : Out (Made Progress) → Out (Made Progress) → Type 0 where
  refusals : {e e' : Refused} → Follows E j v n n' (Err e) (Err e')
  moves :
      {es : List Entry} {s : State} {m m' : Counts} (d : Counts) → Up n m d → Up n' m' d → Fit j n d
      → Follows E j v n n' (Ok (made (map (placed_by v.to) es) (moved_state v.by s) m)) (Ok (made es s m'))
  ends :
      {e : Refused} {es : List Entry} {s : State} {m' : Counts} (d : Counts) → Up n' m' d → (E → Fit j n d → ⊥)
      → Follows E j v n n' (Err e) (Ok (made es s m'))

-- x follows y from every state, moved for x, and whatever was counted
abbrev pub Beside : Type 0 → Judging → Motion → (Progress → Out (Made Progress)) → (Progress → Out (Made Progress)) → Type 0
Beside E j v x y = (s : State) (n n' : Counts) → Follows E j v n n' (x (progress (moved_state v.by s) n)) (y (progress s n'))

module _ {E : Type 0} {j : Judging} {v : Motion} where
  -- no entry is made and nothing counted
  pub follows_no_entry : Beside E j v no_entry no_entry
  follows_no_entry s n n' = moves {es = []} {s = s} {m = n} {m' = n'} nothing (up_nothing n) (up_nothing n') (fit_nothing refl refl)

  -- where x is refused, it need only be said why
  follows_refused :
      {n n' : Counts} {x y : Out (Made Progress)} (e : Refused) → (E → ⊥) → Follows E j v n n' x y → Follows E j v n n' (Err e) y
  follows_refused e why refusals = refusals
  follows_refused e why (moves d u u' f) = ends d u' (λ i _. why i)
  follows_refused e why (ends d u' f) = ends d u' f

  -- past what is there for both
  pub follows_given :
      {A : Type 0} {n n' : Counts} {x y : A → Out (Made Progress)} (o : Option A) (refusal : Refusal) (line line' : ℕ)
      → ((a : A) → Follows E j v n n' (x a) (y a)) → Follows E j v n n' (◌>>=◌ (given o refusal line) x) (◌>>=◌ (given o refusal line') y)
  follows_given None refusal line line' r = refusals
  follows_given (Some a) refusal line line' r = r a

  -- past a test
  pub follows_need :
      {n n' : Counts} {x y : Out (Made Progress)} {t t' : Bool} (refusal : Refusal) (line line' : ℕ) → Looser E t t' → Follows E j v n n' x y
      → Follows E j v n n' (◌>>=◌ (need t refusal line) (λ _. x)) (◌>>=◌ (need t' refusal line') (λ _. y))
  follows_need refusal line line' (alike {t = true}) r = r
  follows_need refusal line line' (alike {t = false}) r = refusals
  follows_need refusal line line' (dropped e) r = follows_refused (record { refusal = refusal; line = line }) e r

  -- entries, and then what is made
  follows_adding :
      {n n' m m' : Counts} {x y : Out (Made Progress)} (es : List Entry) (d : Counts) → Up n m d → Up n' m' d → Fit j n d
      → Follows E j v m m' x y → Follows E j v n n' (adding (map (placed_by v.to) es) x) (adding es y)
  follows_adding es d u u' f refusals = refusals
  follows_adding {n} {n'} es d u u' f (moves {es = fs} {s} {m = k} {m' = k'} e w w' g) =
      subst (λ (l : List Entry). Follows E j v n n' (Ok (made l (moved_state v.by s) k)) (Ok (made (es ++ fs) s k'))) (map-append (placed_by v.to) es fs)
      (moves {es = es ++ fs} {s = s} {m = k} {m' = k'} (d ⊞ e) (up_joined u w) (up_joined u' w') (fit_joined d e u f g))
  follows_adding es d u u' f (ends {es = fs} {s} {m' = k'} e w' g) =
      ends {es = es ++ fs} {s = s} {m' = k'} (d ⊞ e) (up_joined u' w') (λ i a. g i (fit_back d e u a))

  -- where x has ended, y goes on alone
  follows_alone :
      {n n' m m' : Counts} {e : Refused} {x y : Out (Made Progress)} (es : List Entry) (d : Counts) → Up n' m' d → (E → Fit j n d → ⊥)
      → Follows E j v m m' x y → Follows E j v n n' (Err e) (adding es y)
  follows_alone es d u' f refusals = refusals
  follows_alone es d u' f (moves {es = fs} {s} {m' = k'} e w w' g) =
      ends {es = es ++ fs} {s = s} {m' = k'} (d ⊞ e) (up_joined u' w') (λ i a. f i (fit_front d e a))
  follows_alone es d u' f (ends {es = fs} {s} {m' = k'} e w' g) =
      ends {es = es ++ fs} {s = s} {m' = k'} (d ⊞ e) (up_joined u' w') (λ i a. f i (fit_front d e a))

  -- one thing after the other
  pub follows_then :
      {n n' : Counts} {x y : Out (Made Progress)} (f g : Progress → Out (Made Progress)) → Follows E j v n n' x y → Beside E j v f g
      → Follows E j v n n' (and_then x f) (and_then y g)
  follows_then f g refusals r = refusals
  follows_then f g (moves {es} {s} {m} {m'} d u u' k) r = follows_adding es d u u' k (r s m m')
  follows_then f g (ends {es = es} {s} {m'} d u' k) r = follows_alone es d u' k (r s nothing m')

  -- what is left, changed in the state only
  pub follows_map :
      {n n' : Counts} {x y : Out (Made Progress)} (f g : State → State) → Follows E j v n n' x y → ((s : State) → f (moved_state v.by s) ≡ moved_state v.by (g s))
      → Follows E j v n n' (map_after (λ p. progress (f p.state) (counts_of p)) x) (map_after (λ p. progress (g p.state) (counts_of p)) y)
  follows_map f g refusals r = refusals
  follows_map {n} {n'} f g (moves {es} {s} {m} {m'} d u u' k) r =
      subst (λ (t : State). Follows E j v n n' (Ok (made (map (placed_by v.to) es) t m)) (Ok (made es (g s) m'))) (sym (r s)) (moves d u u' k)
  follows_map f g (ends d u' k) r = ends d u' k

  -- a block begins, if there is room: one more is counted
  pub follows_counted :
      {n n' : Counts} {x y : Out (Made Progress)} (refusal : Refusal) (line : ℕ) → Follows E j v (another_block n) (another_block n') x y
      → Follows E j v n n' (◌>>=◌ (need (room j.blocks n.blocks) refusal line) (λ _. x)) y
  follows_counted {n} {n'} refusal line r = go (room j.blocks n.blocks) refl r
    where
      go :
          (t : Bool) → room j.blocks n.blocks ≡ t → {x y : Out (Made Progress)} → Follows E j v (another_block n) (another_block n') x y
          → Follows E j v n n' (◌>>=◌ (need t refusal line) (λ _. x)) y
      go true e refusals = refusals
      go true e (moves d u u' f) =
          moves (one_block ⊞ d) (up_joined (up_block n) u) (up_joined (up_block n') u') (fit_joined one_block d (up_block n) (fit_block e) f)
      go true e (ends d u' f) = ends (one_block ⊞ d) (up_joined (up_block n') u') (λ i a. f i (fit_back one_block d (up_block n) a))
      go false e refusals = refusals
      go false e (moves d u u' f) = ends (one_block ⊞ d) (up_joined (up_block n') u') (λ i a. true≢false (sym (block-fits d a) ∙ e))
      go false e (ends d u' f) = ends (one_block ⊞ d) (up_joined (up_block n') u') (λ i a. true≢false (sym (block-fits d a) ∙ e))

  -- an entry, if there is room: one more is counted
  pub follows_entry :
      (refusal : Refusal) (line : ℕ) (e : Entry) (s : State) (n n' : Counts)
      → Follows E j v n n'
      (◌>>=◌ (need (room j.places n.entries) refusal line) (λ _. Ok (made (placed_by v.to e ∷ []) (moved_state v.by s) (another_entry n))))
      (Ok (made (e ∷ []) s (another_entry n')))
  follows_entry refusal line e s n n' = go (room j.places n.entries) refl
    where
      go :
          (t : Bool) → room j.places n.entries ≡ t
          → Follows E j v n n'
          (◌>>=◌ (need t refusal line) (λ _. Ok (made (placed_by v.to e ∷ []) (moved_state v.by s) (another_entry n))))
          (Ok (made (e ∷ []) s (another_entry n')))
      go true h = moves {es = e ∷ []} {s = s} {m = another_entry n} {m' = another_entry n'} one_entry (up_entry n) (up_entry n') (fit_entry h)
      go false h = ends {es = e ∷ []} {s = s} {m' = another_entry n'} one_entry (up_entry n') (λ i a. true≢false (sym (entry_fits a) ∙ h))

-- ---- What it says where one of the two is accepted

-- both are: entries and state moved, and counts up by as many, which fit
pub record Together (j : Judging) (v : Motion) (n n' : Counts) (m m' : Made Progress) (d : Counts) : Type 0 where
  pub moved : m.entries ≡ map (placed_by v.to) m'.entries
  pub state : m.after.state ≡ moved_state v.by m'.after.state
  pub up : Up n (counts_of m.after) d
  pub up' : Up n' (counts_of m'.after) d
  pub fit : Fit j n d

-- y, with what is said of both
pub record Followed (j : Judging) (v : Motion) (n n' : Counts) (m : Made Progress) (y : Out (Made Progress)) : Type 0 where
  pub other : Made Progress
  pub by : Counts
  pub other_is : y ≡ Ok other
  pub together : Together j v n n' m other by

module _ {E : Type 0} {j : Judging} {v : Motion} {n n' : Counts} where
  pub follows_accepted : (x y : Out (Made Progress)) (m : Made Progress) → x ≡ Ok m → Follows E j v n n' x y → Followed j v n n' m y
  follows_accepted x y m e r = go m y (subst (λ (x : Out (Made Progress)). Follows E j v n n' x y) e r)
    where
      go : (m : Made Progress) (y : Out (Made Progress)) → Follows E j v n n' (Ok m) y → Followed j v n n' m y
      go m y (moves {es} {s} {m'} d u u' f) = record { other = made es s m'; by = d; other_is = refl; together = record { moved = refl; state = refl; up = u; up' = u'; fit = f } }

  -- where E holds, what fits is accepted
  pub follows_fitting :
      (x y : Out (Made Progress)) (m' : Made Progress) → y ≡ Ok m' → Follows E j v n n' x y → E
      → ((d : Counts) → Up n' (counts_of m'.after) d → Fit j n d) → (m : Made Progress) × (x ≡ Ok m)
  follows_fitting x y m' e r i fit = go x m' (subst (λ (y : Out (Made Progress)). Follows E j v n n' x y) e r) fit
    where
      go :
          (x : Out (Made Progress)) (m' : Made Progress) → Follows E j v n n' x (Ok m') → ((d : Counts) → Up n' (counts_of m'.after) d → Fit j n d)
          → (m : Made Progress) × (x ≡ Ok m)
      go x m' (moves {es} {s} {m} d u u' f) fit = (made (map (placed_by v.to) es) (moved_state v.by s) m, refl)
      go x m' (ends d u' f) fit = absurd (f i (fit d u'))
