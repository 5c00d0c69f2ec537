-- The entries of a block that punches are hits with one tool, the one that it leaves.
use Rattle.std.specs.Prelude.{Err, Ok, None, Option, Some}
use mathlib.Core.Path.{◌≡◌, ap, refl, sym, ◌∙◌, subst}
use mathlib.Core.Bool.{Bool, true, false}
use mathlib.Core.List.{List, [], ◌∷◌, ◌++◌}
use Prim.Native.Nat.{ℕ, zero, suc, ◌-◌}
use borrow.Author.Tests.{eq-eqb}
use lib.IntN.{ℤ}
use lib.ListN.{get_or}
use Rattle.aries.specs.declared.refusal.Refusal.{Refusal}
use Rattle.aries.specs.declared.refusal.Refusal.TheVariants.{NoTool, TooFar, OutOfRange, ListFull, ShearUnfit}
use Rattle.aries.specs.declared.job.Job.{Job}
use Rattle.aries.specs.declared.block.Axes.{Axes}
use Rattle.aries.specs.declared.block.Pattern.{Pattern}
use Rattle.aries.specs.declared.block.Pattern.TheVariants.{Line, Arc, Circle, Grid, Shear}
use Rattle.aries.specs.declared.entry.Entry.{Entry}
use Rattle.aries.specs.declared.point.Point.{Point}
use Rattle.aries.specs.declared.state.Frame.{Frame}
use Rattle.aries.specs.declared.state.Progress.{Progress}
use Rattle.aries.specs.Outcome.{Out, ◌>>=◌, need, given}
use Rattle.aries.specs.Entries.{Made, adding, and_then, map_after}
use Rattle.aries.specs.Judging.{Judging, room, judged, near}
use Rattle.aries.specs.Machine.{in_range}
use Rattle.aries.specs.Mirrors.{seen}
use Rattle.aries.specs.Moves.{◌⊕◌, moved_to, entered, hit_of, target, choosing, dropping, remembering, with_state, punch, position}
use Rattle.aries.specs.Patterns.{hit_offset, hit_count, reach_is_near, shear_is_fit, punches, start_of, starting, ending, pattern, run_pattern, recalled, recall}
use Rattle.aries.specs.Runs.{leaving, lent, lent_both, Ran, entries_made}
use Rattle.aries.specs.Tallying.{with_chosen}
use Rattle.aries.proofs.Runs.{left_is, ran-refused, refused_out}
use Rattle.aries.proofs.Tallied.{AllBy, ran_hits}

-- what is Ok leaves a tool, and its entries are hits with it
abbrev OkWith : Option ℕ → Out (Made Progress) → Type 0
OkWith tool (Err e) = Unit {0}
OkWith tool (Ok m) = (m.after.state.tool ≡ tool) × AllBy tool m.entries

pub record OneTool (tool : Option ℕ) (x : Out (Made Progress)) : Type 0 where
  pub with_it : OkWith tool x

all_append : (tool : Option ℕ) (a b : List Entry) → AllBy tool a → AllBy tool b → AllBy tool (a ++ b)
all_append tool [] b h k = k
all_append tool (e ∷ a) b h k = (h.0, all_append tool a b h.1 k)

module _ {tool : Option ℕ} where
  -- past a tool that is chosen
  one-given :
      (o : Option ℕ) (refusal : Refusal) (line : ℕ) {k : ℕ → Out (Made Progress)} → ((t : ℕ) → o ≡ Some t → OneTool tool (k t))
      → OneTool tool (◌>>=◌ (given o refusal line) k)
  one-given None refusal line h = record { with_it = tt }
  one-given (Some t) refusal line h = h t refl

  -- past a test
  one-need : (t : Bool) (refusal : Refusal) (line : ℕ) {x : Out (Made Progress)} → OneTool tool x → OneTool tool (◌>>=◌ (need t refusal line) (λ _. x))
  one-need true refusal line h = h
  one-need false refusal line h = record { with_it = tt }

  one_then : (x : Out (Made Progress)) (f : Progress → Out (Made Progress)) → OneTool tool x → ((g : Progress) → g.state.tool ≡ tool → OneTool tool (f g)) → OneTool tool (and_then x f)
  one_then (Err e) f h k = record { with_it = tt }
  one_then (Ok m) f h k = go (f m.after) (k m.after h.with_it.0)
    where
      go : (y : Out (Made Progress)) → OneTool tool y → OneTool tool (adding m.entries y)
      go (Err e) i = record { with_it = tt }
      go (Ok r) i = record { with_it = (i.with_it.0, all_append tool m.entries r.entries h.with_it.1 i.with_it.1) }

  one_map : (f : Progress → Progress) (x : Out (Made Progress)) → ((g : Progress) → (f g).state.tool ≡ g.state.tool) → OneTool tool x → OneTool tool (map_after f x)
  one_map f (Err e) same h = record { with_it = tt }
  one_map f (Ok m) same h = record { with_it = (same m.after ∙ h.with_it.0, h.with_it.1) }

-- no pattern changes the tool as it ends
pub ending_tool : (p : Pattern) (start : Point) (g : Progress) → (ending p start g).state.tool ≡ g.state.tool
ending_tool (Line i j n) start g = refl
ending_tool (Arc i j p n) start g = refl
ending_tool (Circle i j clockwise n) start g = refl
ending_tool (Grid vertical pitch steps) start g = refl
ending_tool (Shear j s) start g = refl

module _ (j : Judging) (f : Frame) (line : ℕ) where
  one-punch : {tool : Option ℕ} (p : Point) (g : Progress) → g.state.tool ≡ tool → OneTool tool (punch j f line p g)
  unfolding punch
  one-punch {tool} p g e =
      one-given g.state.tool NoTool line λ t is.
      one-need (judged j.bounds (near (seen f p))) TooFar line
      (one-need (judged j.bounds (in_range f (seen f p))) OutOfRange line
      (one-need (room j.places g.entries) ListFull line {x = Ok (entered (hit_of t g.state (seen f p)) (with_state g (moved_to g.state p)))}
      (record { with_it = (e, subst (λ (o : Option ℕ). AllBy o (hit_of t g.state (seen f p) ∷ [])) (sym is ∙ e) (eq-eqb t t refl, tt)) })))

  one-punches : {tool : Option ℕ} (p : Pattern) (start : Point) (n k : ℕ) (g : Progress) → g.state.tool ≡ tool → OneTool tool (punches j f line p start n k g)
  unfolding punches
  one-punches p start zero k g e = record { with_it = (e, tt) }
  one-punches p start (suc n) k g e =
      one_then (punch j f line (start ⊕ hit_offset p k) g) _ (one-punch (start ⊕ hit_offset p k) g e) (λ g' e'. one-punches p start n (suc k) g' e')

  one-pattern : (p : Pattern) (g : Progress) → OneTool g.state.tool (pattern j f line p g)
  unfolding pattern
  one-pattern p g =
      one-need (shear_is_fit p) ShearUnfit line
      (one-need (judged j.bounds (reach_is_near p)) TooFar line
      (one_map (ending p (start_of g.state)) (punches j f line p (start_of g.state) (hit_count p) 0 (starting g)) (ending_tool p (start_of g.state))
      (one-punches p (start_of g.state) (hit_count p) 0 (starting g) refl)))

  -- ---- The three blocks that punch

  pub one-position : (a : Axes) (t : Option ℕ) (g : Progress) → OneTool (choosing g.state t).tool (position j f line a t g)
  unfolding position
  one-position a t g = one-punch (target f g.state a) (with_state g (dropping (choosing g.state t))) refl

  pub one-run : (p : Pattern) (t a : Option ℕ) (g : Progress) → OneTool (choosing g.state t).tool (run_pattern j f line p t a g)
  unfolding run_pattern
  one-run p t a g = one-pattern p (with_state g (remembering (choosing g.state t) a p))

  pub one-recall : (n : ℕ) (g : Progress) → OneTool g.state.tool (recall j f line n g)
  unfolding recall
  one-recall n g = go (get_or g.state.memories (n - 1) None)
    where
      go : (s : Option Pattern) → OneTool g.state.tool (recalled j f line s g)
      go None = record { with_it = tt }
      go (Some p) = one-pattern p g

-- by the tool that is left
hits_by_left : {tool : Option ℕ} (x : Out (Made Progress)) (m : Made Progress) → OneTool tool x → x ≡ Ok m → AllBy m.after.state.tool m.entries
hits_by_left {tool} x m h e =
    let a = subst (OkWith tool) e h.with_it in
    subst (λ (t : Option ℕ). AllBy t m.entries) (sym a.0) a.1

-- something carried out with the list alone, with its hits counted by the tool that is left
pub accepted_hits :
    {job : Job} {left : Progress} {l l' : List ℤ} {k : ℕ} {tool : Option ℕ} {out : Out (Made Progress)} (t : List ℕ) → OneTool tool out
    → Ran entries_made job (Ok left) (lent l) (lent l') k out
    → Ran entries_made job (Ok left) (lent_both l t) (lent_both l' (with_chosen t left.state.tool k left.entries)) k out
accepted_hits {left = left} {out = out} t h ran =
    ran_hits ran t left.state.tool left.entries
    (λ m e. subst (λ (g : Progress). AllBy g.state.tool m.entries) (sym (left_is ran.same m e)) (hits_by_left out m h e))
    (λ m e. ap (λ (g : Progress). g.entries) (left_is ran.same m e))

-- whether it is accepted or refused
pub carried_hits :
    {A : Type 0} (result : Out A) (left : Progress) {job : Job} {l l' : List ℤ} {k : ℕ} {tool : Option ℕ} {out : Out (Made Progress)} (t : List ℕ) → OneTool tool out
    → Ran entries_made job (leaving result left) (lent l) (lent l') k out
    → Ran entries_made job (leaving result left) (lent_both l t) (lent_both l' (with_chosen t left.state.tool k left.entries)) k out
carried_hits (Ok a) left t h ran = accepted_hits t h ran
carried_hits (Err e) left {out = out} t h ran = rw (refused_out e out ran.same) ran-refused
