-- Mirrors with one a and b make each other's frames, and a macro run by a Q is the one run by Q1 with its hits turned: both follow
-- what is carried out without limits by Q1 (`BodyRuns`).
use Rattle.std.specs.Prelude.{Err, Ok, None, Option, Some}
use mathlib.Core.Path.{◌≡◌, refl, sym, ap, ap₂, ◌∙◌, subst}
use mathlib.Core.Bool.{Bool, true, false, cond}
use mathlib.Core.List.{List, [], ◌∷◌, map}
use Prim.Native.Nat.{ℕ}
use native.Mathlib.Omega.{arith}
use lib.IntN.{ℤ, ◌+ℤ◌, ◌-ℤ◌}
use Rattle.signed.proofs.Integers.{sum_minus, plus_difference}
use Rattle.aries.specs.declared.point.Point.{Point}
use Rattle.aries.specs.declared.entry.Entry.{Entry}
use Rattle.aries.specs.declared.mirror.Facing.{Facing}
use Rattle.aries.specs.declared.mirror.Mirror.{Mirror}
use Rattle.aries.specs.declared.state.Frame.{Frame}
use Rattle.aries.specs.declared.state.Progress.{Progress}
use Rattle.aries.specs.declared.state.State.{State}
use Rattle.aries.specs.Outcome.{Out}
use Rattle.aries.specs.Entries.{placed_by, Made, map_after}
use Rattle.aries.specs.Judging.{Judging, limits}
use Rattle.aries.specs.Mirrors.{no_mirror, opened, reflected, mirrored, seen_from, seen}
use Rattle.aries.specs.Moves.{mirror_spans, point_at, zero_point, standing_at, giving}
use Rattle.aries.specs.Macros.{Calls, at_origin, call_mirrored, call}
use Rattle.aries.specs.MirrorRuns.{mirror_alone, MirrorsCompose, unseen_from, unseen, MirrorsUndone, MirrorRun, run_by, turned_by, image_by, MirrorSentence}
use Rattle.aries.proofs.Outcomes.{ok_injective, err≢ok}
use Rattle.aries.proofs.Points.{⊕-zero}
use Rattle.aries.proofs.Counts.{Counts, counts_of, up_unique, Up}
use Rattle.aries.proofs.Mirrors.{opened-twice, flipped_back, seen_none, seen-mirrored, reflected-twice}
use Rattle.aries.proofs.Follows.{moved_waiting, moved_state, moved_frame, Motion, progress, Follows, Followed, follows_accepted}
use Rattle.aries.proofs.BodyRuns.{unlimited, call_follows}
use Rattle.aries.proofs.Parts.{bounds_dropped}

-- ---- Two mirrors

-- what is left at the origin, twice
left_again : (f : Frame) (x : Out (Made Progress)) → map_after (at_origin f) (map_after (at_origin f) x) ≡ map_after (at_origin f) x
left_again f (Ok m) = refl
left_again f (Err e) = refl

module _ (call : Calls) (f : Frame) (line part : ℕ) (g : Progress) where
  -- the macro, called in a frame with these mirrors
  abbrev called_in : Mirror → Out (Made Progress)
  called_in m = call (record { job = f.job; machine = f.machine; origin = f.origin; mirror = m }) part line (at_origin f g)

  -- a G73 in a G73 calls it in both mirrors
  two_mirrors : (q p n : ℕ) → call_mirrored (mirror_alone call p part) f line q n g ≡ map_after (at_origin f) (called_in (opened p (mirror_spans g.state) (opened q (mirror_spans g.state) f.mirror)))
  two_mirrors q p n = left_again f (called_in (opened p (mirror_spans g.state) (opened q (mirror_spans g.state) f.mirror)))

pub mirrors_compose : MirrorsCompose
mirrors_compose =
    record {
      twice = λ call f line q n part g.
          two_mirrors call f line part g q q n
          ∙ ap (λ (m : Mirror). map_after (at_origin f) (called_in call f line part g m)) (opened-twice q (mirror_spans g.state) f.mirror);
      three_in_two = λ call f line n part g. two_mirrors call f line part g 2 3 n;
      two_in_three = λ call f line n part g. two_mirrors call f line part g 3 2 n;
      point-twice = reflected-twice;
      point_both = λ spans origin p. refl;
    }

-- ---- Points before mirrors

axis-unseen : (t : Facing) (origin x : ℤ) → unseen_from t origin (seen_from t origin x) ≡ x
axis-unseen t o x = go t.flipped
  where
    go : (b : Bool) → (let s = o +ℤ cond b (t.span -ℤ (x -ℤ o)) (t.span +ℤ (x -ℤ o)) in o +ℤ cond b (t.span -ℤ (s -ℤ o)) ((s -ℤ o) -ℤ t.span)) ≡ x
    go true = flipped_back t.span o x
    go false =
        ap (λ (z : ℤ). o +ℤ (z -ℤ t.span)) (sum_minus o (t.span +ℤ (x -ℤ o)))
        ∙ ap (λ (z : ℤ). o +ℤ z) (sum_minus t.span (x -ℤ o)) ∙ plus_difference o x

axis-seen : (t : Facing) (origin x : ℤ) → seen_from t origin (unseen_from t origin x) ≡ x
axis-seen t o x = go t.flipped
  where
    go : (b : Bool) → (let s = o +ℤ cond b (t.span -ℤ (x -ℤ o)) ((x -ℤ o) -ℤ t.span) in o +ℤ cond b (t.span -ℤ (s -ℤ o)) (t.span +ℤ (s -ℤ o))) ≡ x
    go true = flipped_back t.span o x
    go false =
        ap (λ (z : ℤ). o +ℤ (t.span +ℤ z)) (sum_minus o ((x -ℤ o) -ℤ t.span))
        ∙ ap (λ (z : ℤ). o +ℤ z) (plus_difference t.span (x -ℤ o)) ∙ plus_difference o x

unseen-seen : (f : Frame) (p : Point) → unseen f (seen f p) ≡ p
unfolding seen unseen
unseen-seen f p = ap₂ point_at (axis-unseen f.mirror.x f.origin.x p.x) (axis-unseen f.mirror.y f.origin.y p.y)

pub mirrors_undone : MirrorsUndone
unfolding seen unseen
mirrors_undone =
    record {
      unseen-seen = unseen-seen;
      seen-unseen = λ f p. ap₂ point_at (axis-seen f.mirror.x f.origin.x p.x) (axis-seen f.mirror.y f.origin.y p.y);
    }

-- ---- Nothing moved

-- states and origins stay, and hits go elsewhere
abbrev still : (Point → Point) → Motion
still to = record { by = zero_point; to = to }

state_stays : (s : State) → moved_state zero_point s ≡ s
state_stays s =
    ap₂ (λ (p : Point) (w : Option Point). record { current = p; waiting = w; incremental = s.incremental; nibble = s.nibble; tool = s.tool; memories = s.memories; spans = s.spans })
    (⊕-zero s.current) (go s.waiting)
  where
    go : (w : Option Point) → moved_waiting zero_point w ≡ w
    go None = refl
    go (Some p) = ap Some (⊕-zero p)

frame_stays : (m : Mirror) (f : Frame) → moved_frame zero_point f.job.places m f ≡ record { job = f.job; machine = f.machine; origin = f.origin; mirror = m }
frame_stays m f = ap (λ (p : Point). record { job = f.job; machine = f.machine; origin = p; mirror = m }) (⊕-zero f.origin)

-- ---- The mirror sentence

module _ (c : MirrorRun) where
  abbrev spans : Point
  spans = mirror_spans (giving c.before.state c.axes)

  abbrev found : State
  found = standing_at (giving c.before.state c.axes) c.frame.origin

  abbrev counted : Counts
  counted = counts_of c.before

  -- the macro by a Q, and by Q1 without limits
  abbrev inside : ℕ → Out (Made Progress)
  inside q = call (limits c.frame.job) c.bodies c.calls (mirrored q spans c.frame) c.part c.line (progress found counted)

  abbrev free : Out (Made Progress)
  free = call (unlimited false) c.bodies c.calls c.frame c.part c.line (progress found counted)

  -- the one follows the other, where hits are seen so
  inside_follows : (q : ℕ) (to : Point → Point) → ((p : Point) → seen (mirrored q spans c.frame) p ≡ to (seen c.frame p))
      → Follows ⊥ (limits c.frame.job) (still to) counted counted (inside q) free
  unfolding call
  inside_follows q to sees =
      subst (λ (s : State). along (mirrored q spans f) s) (state_stays found)
      (subst (λ (e : Frame). along e (moved_state zero_point found)) (frame_stays (opened q spans f.mirror) f)
      (call_follows j false (still to) f.job.places (bounds_dropped j (still to) f.job.places) c.bodies c.bodies (λ k. refl) c.calls f (opened q spans f.mirror)
      (λ p. ap₂ seen (frame_stays (opened q spans f.mirror) f) (⊕-zero p) ∙ sees p) c.part c.line c.line found counted counted))
    where
      f : Frame
      f = c.frame

      j : Judging
      j = limits c.frame.job

      along : Frame → State → Type 0
      along e s = Follows ⊥ j (still to) counted counted (call j c.bodies c.calls e c.part c.line (progress s counted)) free

  -- a block that is accepted: what its macro makes, from where it ends at the origin
  ran : (q : ℕ) (m : Made Progress) → run_by q c ≡ Ok m → (k : Made Progress) × (inside q ≡ Ok k) × (m ≡ record { entries = k.entries; after = at_origin c.frame k.after })
  unfolding run_by
  ran q m e = go (inside q) refl e
    where
      go : (x : Out (Made Progress)) → inside q ≡ x → map_after (at_origin c.frame) x ≡ Ok m
          → (k : Made Progress) × (inside q ≡ Ok k) × (m ≡ record { entries = k.entries; after = at_origin c.frame k.after })
      go (Ok k) p h = (k, p, sym (ok_injective _ _ h))
      go (Err e) p h = absurd (err≢ok e m h)

-- entries whose hits go to the same places
placed_alike : (to to' : Point → Point) → ((p : Point) → to p ≡ to' p) → (es : List Entry) → map (placed_by to) es ≡ map (placed_by to') es
placed_alike to to' same [] = refl
placed_alike to to' same (Entry.Hit h ∷ es) =
    ap₂ (λ (p : Point) (l : List Entry). Entry.Hit (record { place = p; tool = h.tool; nibble = h.nibble }) ∷ l) (same h.place) (placed_alike to to' same es)
placed_alike to to' same (Entry.Stop optional ∷ es) = ap (λ (l : List Entry). Entry.Stop optional ∷ l) (placed_alike to to' same es)

-- or stay
placed_stays : (es : List Entry) → map (placed_by (λ p. p)) es ≡ es
placed_stays [] = refl
placed_stays (Entry.Hit h ∷ es) = ap (λ (l : List Entry). Entry.Hit h ∷ l) (placed_stays es)
placed_stays (Entry.Stop optional ∷ es) = ap (λ (l : List Entry). Entry.Stop optional ∷ l) (placed_stays es)

-- two that went along with one thing end alike
same_end :
    {j : Judging} {to to' : Point → Point} {n n' : Counts} {k k' : Made Progress} {y : Out (Made Progress)} → Followed j (still to) n n' k y
    → Followed j (still to') n n' k' y → k'.after ≡ k.after
same_end {n = n} {n' = n'} {k = k} {k' = k'} r r' =
    ap₂ (λ (s : State) (c : Counts). progress s c) states (ap₂ (λ (b e : ℕ). record { blocks = b; entries = e }) blocks entries)
  where
    same : r.other ≡ r'.other
    same = ok_injective _ _ (sym r.other_is ∙ r'.other_is)

    states : k'.after.state ≡ k.after.state
    states = r'.together.state ∙ ap (λ (m : Made Progress). moved_state zero_point m.after.state) (sym same) ∙ sym r.together.state

    by : r.by ≡ r'.by
    by = up_unique r.together.up' (subst (λ (m : Made Progress). Up n' (counts_of m.after) r'.by) (sym same) r'.together.up')

    blocks : k'.after.blocks ≡ k.after.blocks
    blocks = let b : r.by.blocks ≡ r'.by.blocks = ap (λ (d : Counts). d.blocks) by in omega (arith, b, r.together.up.blocks, r'.together.up.blocks)

    entries : k'.after.entries ≡ k.after.entries
    entries = let b : r.by.entries ≡ r'.by.entries = ap (λ (d : Counts). d.entries) by in omega (arith, b, r.together.up.entries, r'.together.up.entries)

turned : (q : ℕ) (c : MirrorRun) (m m' : Made Progress) → run_by 1 c ≡ Ok m → run_by q c ≡ Ok m'
    → (m'.entries ≡ map (placed_by (image_by q c)) m.entries) × (m'.after ≡ m.after)
turned q c m m' e e' =
    let a = ran c 1 m e in
    let b = ran c q m' e' in
    let f = c.frame in
    let first = follows_accepted (inside c 1) (free c) a.0 a.1 (inside_follows c 1 (λ p. p) (λ p. refl)) in
    let second = follows_accepted (inside c q) (free c) b.0 b.1
    (inside_follows c q (image_by q c)
    (λ p. seen-mirrored q (spans c) f p ∙ ap (λ (z : Point). seen f (reflected q (spans c) f.origin z)) (sym (unseen-seen f p)))) in
    let made : first.other ≡ second.other = ok_injective _ _ (sym first.other_is ∙ second.other_is) in (
      ap (λ (k : Made Progress). k.entries) b.2 ∙ second.together.moved
          ∙ ap (λ (k : Made Progress). map (placed_by (image_by q c)) k.entries) (sym made)
          ∙ ap (map (placed_by (image_by q c))) (sym (ap (λ (k : Made Progress). k.entries) a.2 ∙ first.together.moved ∙ placed_stays first.other.entries)),
      ap (λ (k : Made Progress). k.after) b.2 ∙ ap (at_origin f) (same_end first second) ∙ sym (ap (λ (k : Made Progress). k.after) a.2),
    )

-- where no mirror is open, a point is turned as it is
turned_alone : (q : ℕ) (c : MirrorRun) → c.frame.mirror ≡ no_mirror → (p : Point) → image_by q c p ≡ turned_by q c p
turned_alone q c e p =
    let f = c.frame in
    let unseen-is : unseen f p ≡ p = ap (unseen f) (sym (seen_none f p e)) ∙ unseen-seen f p in
    seen_none f (turned_by q c (unseen f p)) e ∙ ap (turned_by q c) unseen-is

pub mirror_sentence : MirrorSentence
mirror_sentence =
    record {
      turned = turned;
      outermost = λ q c m m' n e e'. (turned q c m m' e e').0 ∙ placed_alike (image_by q c) (turned_by q c) (turned_alone q c n) m.entries;
    }
