-- X and Y that G73 blocks have given stay as short as words are (`CallsNear`): one law a definition, from a direct block up to the
-- copies of a part and a U line.
use Rattle.std.specs.Prelude.{Err, None, Ok, Option, Some, Result, unwrap_or}
use mathlib.Core.Path.{◌≡◌, refl, subst}
use mathlib.Core.Bool.{Bool, true, false}
use mathlib.Core.List.{List, [], ◌∷◌}
use Prim.Native.Nat.{ℕ, zero, suc, ◌-◌}
use lib.IntN.{ℤ, pos}
use lib.ListN.{get_or}
use Rattle.signed.proofs.Tests.{and_intro}
use Rattle.aries.specs.declared.refusal.Refused.{Refused}
use Rattle.aries.specs.declared.refusal.Refusal.TheVariants.{BlocksSpent, NotStored, NoTool, TooFar, OutOfRange, ListFull, ShearUnfit}
use Rattle.aries.specs.declared.block.Layout.{Layout}
use Rattle.aries.specs.declared.refusal.Refusal.{Refusal}
use Rattle.aries.specs.declared.job.Job.{Job}
use Rattle.aries.specs.declared.point.Point.{Point}
use Rattle.aries.specs.declared.block.Axes.{Axes}
use Rattle.aries.specs.declared.block.Pattern.{Pattern}
use Rattle.aries.specs.declared.block.Pattern.TheVariants.{Line, Arc, Circle, Grid, Shear}
use Rattle.aries.specs.declared.block.Direct.{Direct}
use Rattle.aries.specs.declared.block.Direct.TheVariants.{Lone, Punch, Move, PatternOrigin, RunPattern, Recall, Nibble, Idle, Stop}
use Rattle.aries.specs.declared.block.Call.{Call}
use Rattle.aries.specs.declared.block.Call.TheVariants.{Plain, Mirrored}
use Rattle.aries.specs.declared.block.Block.{Block}
use Rattle.aries.specs.declared.block.Instruction.{Instruction}
use Rattle.aries.specs.declared.block.Copies.{Copies}
use Rattle.aries.specs.declared.macros.Macros.{Macros}
use Rattle.aries.specs.declared.setup.Setup.{Setup}
use Rattle.aries.specs.declared.state.State.{State}
use Rattle.aries.specs.declared.state.Frame.{Frame}
use Rattle.aries.specs.declared.state.Progress.{Progress}
use Rattle.aries.specs.Outcome.{Out, ◌>>=◌, need, given, in_line}
use Rattle.aries.specs.Text.{lines}
use Rattle.aries.specs.Reader.{reader_of}
use Rattle.aries.specs.Blocks.{decode}
use Rattle.aries.specs.Entries.{Made, no_entry, adding, and_then, map_after}
use Rattle.aries.specs.Judging.{Judging, is_near, judged, near, room}
use Rattle.aries.specs.Machine.{in_range}
use Rattle.aries.specs.Mirrors.{seen}
use Rattle.std.specs.Option.{option_or}
use Rattle.aries.specs.Moves.{◌⊕◌, moved_to, choosing, remembering, dropping, giving, mirror_spans, target, with_state, entered, hit_of, punch, position, move, set_pattern_origin}
use Rattle.aries.specs.Patterns.{hit_offset, hit_count, reach_is_near, shear_is_fit, punches, start_of, starting, ending, pattern, run_pattern, recalled, recall}
use Rattle.aries.specs.Macros.{Body, Bodies, bodies_of, Calls, carry_direct, at_origin, carry_call, carry, may_come, Begun, begun_by, begin, run_block, run_line, run_lines, call, most_calls, run_body}
use Rattle.aries.specs.Setup.{ordinary_frame, frame_at}
use Rattle.aries.specs.Layouts.{copy_start, copy_count, copy_place, copy, copy_all, part_of, copy_over, copy_part}
use Rattle.aries.specs.Bodies.{runs_first, first_run}
use Rattle.aries.specs.Runs.{Lent, entries_made, Ran}
use Rattle.aries.specs.Steady.{AxesNear, GivenNear, CallNear, CallsNear}
use Rattle.aries.proofs.Judging.{near_both}
use Rattle.aries.proofs.Outcomes.{ok_injective, err≢ok}
use Rattle.aries.proofs.Runs.{accepted_as}

-- ---- What is Ok

abbrev OkNear : Out (Made Progress) → Type 0
OkNear (Ok m) = GivenNear m.after.state
OkNear (Err e) = Unit {0}

-- what is Ok leaves them so
pub record LeavesNear (x : Out (Made Progress)) : Type 0 where
  pub left : OkNear x

-- from where they are
abbrev pub NearFrom : (Progress → Out (Made Progress)) → Type 0
NearFrom step = (g : Progress) → GivenNear g.state → LeavesNear (step g)

near-refused : {e : Refused} → LeavesNear (Err e)
near-refused = record { left = tt }

near-need : (t : Bool) (refusal : Refusal) (line : ℕ) {x : Out (Made Progress)} → LeavesNear x → LeavesNear (◌>>=◌ (need t refusal line) (λ _. x))
near-need true refusal line h = h
near-need false refusal line h = near-refused

near-given : {A : Type 0} (o : Option A) (refusal : Refusal) (line : ℕ) (k : A → Out (Made Progress)) → ((a : A) → LeavesNear (k a)) → LeavesNear (◌>>=◌ (given o refusal line) k)
near-given None refusal line k h = near-refused
near-given (Some a) refusal line k h = h a

near_bind : {A : Type 0} (x : Out A) (k : A → Out (Made Progress)) → ((a : A) → x ≡ Ok a → LeavesNear (k a)) → LeavesNear (◌>>=◌ x k)
near_bind (Ok a) k h = h a refl
near_bind (Err e) k h = near-refused

pub near-adding : (m : Made Progress) (y : Out (Made Progress)) → LeavesNear y → LeavesNear (adding m.entries y)
near-adding m (Ok r) h = record { left = h.left }
near-adding m (Err e) h = near-refused

near_then : (x : Out (Made Progress)) (f : Progress → Out (Made Progress)) → LeavesNear x → NearFrom f → LeavesNear (and_then x f)
near_then (Err e) f h k = near-refused
near_then (Ok m) f h k = near-adding m (f m.after) (k m.after h.left)

near-map : (f : Progress → Progress) (x : Out (Made Progress)) → LeavesNear x → ((g : Progress) → GivenNear g.state → GivenNear (f g).state) → LeavesNear (map_after f x)
near-map f (Err e) h k = near-refused
near-map f (Ok m) h k = record { left = k m.after h.left }

-- ---- Direct blocks leave them as they are

module _ (j : Judging) (f : Frame) (line : ℕ) where
  punch-near : (p : Point) → NearFrom (punch j f line p)
  unfolding punch
  punch-near p g h =
      near-given g.state.tool NoTool line _ λ tool.
      near-need (judged j.bounds (near (seen f p))) TooFar line
      (near-need (judged j.bounds (in_range f (seen f p))) OutOfRange line
      (near-need (room j.places g.entries) ListFull line {x = Ok (entered (hit_of tool g.state (seen f p)) (with_state g (moved_to g.state p)))} (record { left = h })))

  punches-near : (p : Pattern) (start : Point) (n k : ℕ) → NearFrom (punches j f line p start n k)
  unfolding punches
  punches-near p start zero k g h = record { left = h }
  punches-near p start (suc n) k g h =
      near_then (punch j f line (start ⊕ hit_offset p k) g) _ (punch-near (start ⊕ hit_offset p k) g h) (punches-near p start n (suc k))

  ending-near : (p : Pattern) (start : Point) (g : Progress) → GivenNear g.state → GivenNear (ending p start g).state
  ending-near (Line i j n) start g h = h
  ending-near (Arc i j p n) start g h = h
  ending-near (Circle i j clockwise n) start g h = h
  ending-near (Grid vertical pitch steps) start g h = h
  ending-near (Shear j s) start g h = h

  pattern-near : (p : Pattern) → NearFrom (pattern j f line p)
  unfolding pattern
  pattern-near p g h =
      near-need (shear_is_fit p) ShearUnfit line
      (near-need (judged j.bounds (reach_is_near p)) TooFar line
      (near-map (ending p (start_of g.state)) _ (punches-near p (start_of g.state) (hit_count p) 0 (starting g) h) (ending-near p (start_of g.state))))

  recalled-near : (s : Option Pattern) → NearFrom (recalled j f line s)
  recalled-near None g h = near-refused
  recalled-near (Some p) g h = pattern-near p g h

  pub carry_direct-near : (d : Direct) → NearFrom (carry_direct j f line d)
  unfolding carry_direct position move set_pattern_origin run_pattern recall
  carry_direct-near Lone g h = record { left = h }
  carry_direct-near (Punch a t) g h = punch-near (target f g.state a) (with_state g (dropping (choosing g.state t))) h
  carry_direct-near (Move a t) g h =
      near-need (judged j.bounds (near (seen f (target f g.state a)))) TooFar line
      (near-need (judged j.bounds (in_range f (seen f (target f g.state a)))) OutOfRange line (record { left = h }))
  carry_direct-near (PatternOrigin a) g h = near-need (judged j.bounds (near (target f g.state a))) TooFar line (record { left = h })
  carry_direct-near (RunPattern p t a) g h = pattern-near p (with_state g (remembering (choosing g.state t) a p)) h
  carry_direct-near (Recall n) g h = recalled-near (get_or g.state.memories (n - 1) None) g h
  carry_direct-near (Nibble b) g h = record { left = h }
  carry_direct-near Idle g h = record { left = h }
  carry_direct-near (Stop optional) g h = near-need (room j.places g.entries) ListFull line (record { left = h })

-- ---- Calls

last-near :
    (a before : Option ℤ) → is_near (unwrap_or before (pos 0)) ≡ true → is_near (unwrap_or a (pos 0)) ≡ true
    → is_near (unwrap_or (option_or a before) (pos 0)) ≡ true
last-near None before h k = h
last-near (Some value) before h k = k

-- those that a G73 gives beside those that were given
pub giving-near : (s : State) (a : Axes) → GivenNear s → AxesNear a → GivenNear (giving s a)
unfolding near
giving-near s a h k =
    let n = near_both (mirror_spans s) h in
    and_intro _ _ (last-near a.x s.spans.x n.0 k.x) (last-near a.y s.spans.y n.1 k.y)

-- what a call does
abbrev pub CallingNear : Calls → Type 0
CallingNear calls = (f : Frame) (n line : ℕ) → NearFrom (calls f n line)

pub carry_call-near : (calls : Calls) → CallingNear calls → (f : Frame) (line : ℕ) (c : Call) → CallNear c → NearFrom (carry_call calls f line c)
carry_call-near calls calling f line (Plain n) k g h = calling f n line g h
carry_call-near calls calling f line (Mirrored m) k g h =
    near-map (at_origin f) _ (calling _ m.part line _ (giving-near g.state m.axes h k)) (λ left i. i)

-- ---- Blocks and lines

-- a block that begins: a call of it is short, and nothing is given yet
pub record BegunNear (b : Begun) : Type 0 where
  pub block : (c : Call) → b.block ≡ Block.Call c → CallNear c
  pub given : GivenNear b.progress.state

module _ (short : CallsNear) where
  pub begin-near : (j : Judging) (f : Frame) (line : ℕ) (l : List ℕ) (g : Progress) → GivenNear g.state → (b : Begun) → begin j f line l g ≡ Ok b → BegunNear b
  unfolding begin
  begin-near j f line l g h b e = go (may_come j l g) (decode (reader_of f g.state) l) refl e
    where
      go :
          (t : Bool) (o : Result Instruction Refusal) → decode (reader_of f g.state) l ≡ o
          → ◌>>=◌ (need t BlocksSpent line) (λ _. ◌>>=◌ (in_line line o) (λ i. Ok (begun_by l g i))) ≡ Ok b → BegunNear b
      go false o d k = absurd (err≢ok (record { refusal = BlocksSpent; line = line }) b k)
      go true (Err refusal) d k = absurd (err≢ok (record { refusal = refusal; line = line }) b k)
      go true (Ok i) d k =
          subst BegunNear (ok_injective _ _ k) (record { block = λ c a. short (reader_of f g.state) l i c d a; given = h })

  module _ (j : Judging) (calls : Calls) (calling : CallingNear calls) (f : Frame) where
    carry-near : (line : ℕ) (b : Block) → ((c : Call) → b ≡ Block.Call c → CallNear c) → NearFrom (carry j calls f line b)
    unfolding carry
    carry-near line (Block.Direct d) k g h = carry_direct-near j f line d g h
    carry-near line (Block.Call c) k g h = carry_call-near calls calling f line c (k c refl) g h
    carry-near line (Block.Outside o) k g h = near-refused

    run_line-near : (line : ℕ) (l : List ℕ) → NearFrom (run_line j calls f line l)
    unfolding run_block
    run_line-near line [] g h = record { left = h }
    run_line-near line (c ∷ l) g h =
        near_bind (begin j f line (c ∷ l) g) _ λ b e.
        let n = begin-near j f line (c ∷ l) g h b e in
        carry-near line b.block n.block b.progress n.given

    run_lines-near : (ls : List (List ℕ)) (line : ℕ) → NearFrom (run_lines j calls f line ls)
    unfolding run_lines
    run_lines-near [] line g h = record { left = h }
    run_lines-near (l ∷ ls) line g h = near_then (run_line j calls f line l g) _ (run_line-near line l g h) (run_lines-near ls (suc line))

  module _ (j : Judging) (bodies : Bodies) where
    pub call-near : (d : ℕ) → CallingNear (call j bodies d)
    unfolding call
    call-near zero f n line g h = near-given (bodies n) NotStored line _ (λ b. near-refused)
    call-near (suc d) f n line g h =
        near-given (bodies n) NotStored line _ (λ b. run_lines-near j (call j bodies d) (call-near d) f (lines b.bytes) b.line g h)

    pub run_body-near : (d : ℕ) (f : Frame) (b : Body) → NearFrom (run_body j bodies d f b)
    unfolding run_body
    run_body-near d f b g h = run_lines-near j (call j bodies d) (call-near d) f (lines b.bytes) b.line g h

    -- ---- Copies, each of which begins with what was given before the run

    copy_all-near :
        (b : Body) (f : Frame) (line : ℕ) (found : State) → GivenNear found → (place : ℕ → Point) (n m : ℕ)
        → NearFrom (copy_all j (part_of j bodies b) f line found place n m)
    unfolding copy_all copy
    copy_all-near b f line found k place zero m g h = record { left = h }
    copy_all-near b f line found k place (suc n) m g h =
        near_then (copy j (part_of j bodies b) f line found (place m) g) _
        (near-need (judged j.bounds (near (place m))) TooFar line
        (run_body-near (most_calls - 1) (frame_at f (place m)) b (with_state g (copy_start found (place m))) k))
        (copy_all-near b f line found k place n (suc m))

    copy_over-near : (b : Body) (s : Setup) (line : ℕ) (c : Copies) (sheet : Option Layout) → NearFrom (copy_over j bodies b s line c sheet)
    copy_over-near b s line c None g h = near-refused
    copy_over-near b s line c (Some l) g h =
        copy_all-near b (ordinary_frame s) line g.state h (copy_place s.origin l c) (copy_count l) 0 g h

    pub copy_part-near : (s : Setup) (line : ℕ) (c : Copies) → NearFrom (copy_part j bodies s line c)
    unfolding copy_part
    copy_part-near s line c g h = near-given (bodies c.part) NotStored line _ (λ b. copy_over-near b s line c s.sheet g h)

  -- ---- First runs

  pub first_run-near : (j : Judging) (text : List ℕ) (m : Macros) (n : ℕ) (b : Body) (s : Setup) → NearFrom (first_run j text m n b s)
  unfolding first_run
  first_run-near j text m n b s g h = go (runs_first n s.sheet)
    where
      go : (t : Bool) → LeavesNear (elim t as (λ _. Out (Made Progress)) [ true ↦ run_body j (bodies_of text m) (most_calls - 1) (ordinary_frame s) b g | false ↦ no_entry g ])
      go true = run_body-near j (bodies_of text m) (most_calls - 1) (ordinary_frame s) b g h
      go false = record { left = h }

-- ---- What was carried out

-- where all went well, what is left has them so
pub left_near :
    {job : Job} {left : Progress} {before after : Lent} {k : ℕ} (out : Out (Made Progress)) → Ran entries_made job (Ok left) before after k out
    → LeavesNear out → GivenNear left.state
left_near {left = left} out r h =
    let a = accepted_as left out r.same in
    subst (λ (g : Progress). GivenNear g.state) a.after_is (subst OkNear a.out_is h.left)
