-- Every definition that carries out blocks of a body follows itself without limits on blocks and places: moved by a vector, in
-- other mirrors, under another job, in other lines, from other places of another text, with counts that go up by as many
-- (`Follows`). One law a definition; a code that is added later adds a case to `carry_direct_follows`.
use Rattle.std.specs.Prelude.{Err, None, Ok, Option, Some, Result}
use mathlib.Core.Path.{◌≡◌, refl, sym, ap, ap₂, ◌∙◌, subst, fun_ext}
use mathlib.Core.Bool.{Bool, true, false, not, cond, ◌||◌}
use mathlib.Core.List.{List, [], ◌∷◌}
use Prim.Native.Nat.{ℕ, zero, suc, ◌-◌}
use native.Mathlib.Omega.{arith}
use lib.IntN.{ℤ, ◌+ℤ◌}
use lib.ListN.{get_or}
use Rattle.aries.specs.declared.refusal.Refusal.{Refusal}
use Rattle.aries.specs.declared.refusal.Refusal.TheVariants.{BlocksSpent, NotStored, TooDeep, NoTool, TooFar, OutOfRange, ListFull, ShearUnfit}
use Rattle.aries.specs.declared.point.Point.{Point}
use Rattle.aries.specs.declared.block.Axes.{Axes}
use Rattle.aries.specs.declared.block.Pattern.{Pattern}
use Rattle.aries.specs.declared.block.Pattern.TheVariants.{Line, Arc, Circle, Grid, Shear}
use Rattle.aries.specs.declared.block.Direct.{Direct}
use Rattle.aries.specs.declared.block.Direct.TheVariants.{Lone, Punch, Move, PatternOrigin, RunPattern, Recall, Nibble, Idle, Stop}
use Rattle.aries.specs.declared.entry.Entry.TheVariants as Entry
use Rattle.aries.specs.declared.block.Call.{Call}
use Rattle.aries.specs.declared.block.Call.TheVariants.{Plain, Mirrored}
use Rattle.aries.specs.declared.block.Block.{Block}
use Rattle.aries.specs.declared.block.Instruction.{Instruction}
use Rattle.aries.specs.declared.state.State.{State}
use Rattle.aries.specs.declared.reader.Reader.{Reader}
use Rattle.aries.specs.declared.mirror.Mirror.{Mirror}
use Rattle.aries.specs.declared.state.Frame.{Frame}
use Rattle.aries.specs.declared.state.Progress.{Progress}
use Rattle.aries.specs.Outcome.{Out, refused, ◌>>=◌, need, given, in_line}
use Rattle.aries.specs.Text.{lines}
use Rattle.aries.specs.Machine.{in_range}
use Rattle.aries.specs.Reader.{reader_of}
use Rattle.aries.specs.Blocks.{decode}
use Rattle.aries.specs.Entries.{Made, no_entry, map_after}
use Rattle.aries.specs.Judging.{Judging, room, judged, near}
use Rattle.aries.specs.Mirrors.{opened, mirrored, seen, reflected}
use Rattle.aries.specs.Moves.{◌⊕◌, moved_to, waiting_for, in_mode, choosing, remembering, measuring, dropping, standing_at, giving, mirror_spans, axis_target, target, with_state, enter, hit_of, punch, position, move, set_pattern_origin}
use Rattle.aries.specs.Patterns.{hit_offset, hit_count, reach_is_near, shear_is_fit, punches, start_at, start_of, ending, pattern, run_pattern, recalled, recall}
use Rattle.aries.specs.Macros.{Body, Bodies, Calls, carry_direct, call_mirrored, carry_call, carry, is_counted, may_come, begun, begin, run_block, run_line, run_lines, call, run_body}
use Rattle.aries.specs.CopyRuns.{bytes_of}
use Rattle.aries.proofs.Outcomes.{>>=-assoc}
use Rattle.aries.proofs.Points.{+ℤ-swap, ⊕-swap}
use Rattle.aries.proofs.Mirrors.{seen-mirrored, reflected_moves}
use Rattle.aries.proofs.Counts.{Counts, another_block}
use Rattle.aries.proofs.Follows.{moved_waiting, moved_state, moved_frame, Motion, Sees, progress, Looser, alike, Follows, refusals, Beside, follows_no_entry, follows_given, follows_need, follows_then, follows_map, follows_counted, follows_entry}

-- ---- Points named by a moved state are moved

axis_moves :
    (a : Option ℤ) (incremental : Bool) (origin current d : ℤ)
    → axis_target a incremental (origin +ℤ d) (current +ℤ d) ≡ axis_target a incremental origin current +ℤ d
axis_moves None i o c d = refl
axis_moves (Some value) true o c d = +ℤ-swap c d value
axis_moves (Some value) false o c d = +ℤ-swap o d value

target_moves : (v : Point) (places : ℕ) (m : Mirror) (f : Frame) (s : State) (a : Axes) → target (moved_frame v places m f) (moved_state v s) a ≡ target f s a ⊕ v
target_moves v places m f s a =
    ap₂ (λ (x y : ℤ). record { x = x; y = y })
    (axis_moves a.x s.incremental f.origin.x s.current.x v.x)
    (axis_moves a.y s.incremental f.origin.y s.current.y v.y)

start_moves : (v : Point) (w : Option Point) (p : Point) → start_at (moved_waiting v w) (p ⊕ v) ≡ start_at w p ⊕ v
start_moves v None p = refl
start_moves v (Some q) p = refl

-- a mirror that opens inside those of both leaves it so
sees_mirrored : (v : Motion) (places : ℕ) (f : Frame) (m : Mirror) (q : ℕ) (spans : Point) → Sees v places f m → Sees v places (mirrored q spans f) (opened q spans m)
sees_mirrored v places f m q spans sees p =
    seen-mirrored q spans (moved_frame v.by places m f) (p ⊕ v.by)
    ∙ ap (seen (moved_frame v.by places m f)) (reflected_moves q spans f.origin p v.by)
    ∙ sees (reflected q spans f.origin p) ∙ ap v.to (sym (seen-mirrored q spans f p))

-- ---- Bounds

-- What j judges of a moved point is judged of the point itself, or dropped where E fails: of an origin that waits, and where a
-- point is seen; so with a pattern's reach.
pub record Bounds (E : Type 0) (j : Judging) (bounds : Bool) (v : Motion) (places : ℕ) : Type 0 where
  pub nearness : (p : Point) → Looser E (judged j.bounds (near (p ⊕ v.by))) (judged bounds (near p))
  pub seen-near : (p : Point) → Looser E (judged j.bounds (near (v.to p))) (judged bounds (near p))
  pub coverage : (f : Frame) (m : Mirror) (p : Point) → Looser E (judged j.bounds (in_range (moved_frame v.by places m f) (v.to p))) (judged bounds (in_range f p))
  pub reach : (t : Bool) → Looser E (judged j.bounds t) (judged bounds t)

-- no limit on blocks and places
abbrev pub unlimited : Bool → Judging
unlimited bounds = record { blocks = None; bounds = bounds; places = None }

module _ {E : Type 0} (j : Judging) (bounds : Bool) (v : Motion) (places : ℕ) (w : Bounds E j bounds v places) where
  -- the judging of y
  abbrev free : Judging
  free = unlimited bounds

  -- the frame of x
  abbrev moved : Mirror → Frame → Frame
  moved m f = moved_frame v.by places m f

  abbrev ◌beside◌ : (Progress → Out (Made Progress)) → (Progress → Out (Made Progress)) → Type 0

  infix 5 ◌beside◌
  x beside y = Beside E j v x y

  module _ (f : Frame) (m : Mirror) (sees : Sees v places f m) (line line' : ℕ) where
    -- ---- Positions

    -- a hit that is seen at one point, and another that becomes the current point
    punch_at : Point → Point → Progress → Out (Made Progress)
    punch_at q p g = do
      tool ← given g.state.tool NoTool line
      _ ← need (judged j.bounds (near q)) TooFar line
      _ ← need (judged j.bounds (in_range (moved m f) q)) OutOfRange line
      enter j line (hit_of tool g.state q) (with_state g (moved_to g.state p))

    punch_follows : (p : Point) → punch j (moved m f) line (p ⊕ v.by) beside punch free f line' p
    unfolding punch punch_at
    punch_follows p s n n' =
        subst (λ (q : Point). Follows E j v n n' (punch_at q (p ⊕ v.by) (progress (moved_state v.by s) n)) (punch free f line' p (progress s n')))
        (sym (sees p))
        (follows_given s.tool NoTool line line' λ tool.
        (follows_need TooFar line line' (w.seen-near (seen f p))
        (follows_need OutOfRange line line' (w.coverage f m (seen f p))
        (follows_entry ListFull line (hit_of tool s (seen f p)) (moved_to s p) n n'))))

    position_follows : (a : Axes) (t : Option ℕ) → position j (moved m f) line a t beside position free f line' a t
    unfolding position
    position_follows a t s n n' =
        subst
        (λ (q : Point). Follows E j v n n' (punch j (moved m f) line q (progress (dropping (choosing (moved_state v.by s) t)) n)) (position free f line' a t (progress s n')))
        (sym (target_moves v.by places m f s a))
        (punch_follows (target f s a) (dropping (choosing s t)) n n')

    -- a move whose end is seen at one point, and to another
    move_to : Option ℕ → Point → Point → Progress → Out (Made Progress)
    move_to t q p g = do
      _ ← need (judged j.bounds (near q)) TooFar line
      _ ← need (judged j.bounds (in_range (moved m f) q)) OutOfRange line
      no_entry (with_state g (moved_to (dropping (choosing g.state t)) p))

    move_follows : (a : Axes) (t : Option ℕ) → move j (moved m f) line a t beside move free f line' a t
    unfolding move move_to
    move_follows a t s n n' =
        subst (λ (p : Point). Follows E j v n n' (move_to t (seen (moved m f) p) p (progress (moved_state v.by s) n)) (move free f line' a t (progress s n')))
        (sym (target_moves v.by places m f s a))
        (subst
        (λ (q : Point). Follows E j v n n' (move_to t q (target f s a ⊕ v.by) (progress (moved_state v.by s) n)) (move free f line' a t (progress s n')))
        (sym (sees (target f s a)))
        (follows_need TooFar line line' (w.seen-near (seen f (target f s a)))
        (follows_need OutOfRange line line' (w.coverage f m (seen f (target f s a)))
        (follows_no_entry (moved_to (dropping (choosing s t)) (target f s a)) n n'))))

    -- a waiting origin at a point
    wait_at : Point → Progress → Out (Made Progress)
    wait_at q g = do
      _ ← need (judged j.bounds (near q)) TooFar line
      no_entry (with_state g (waiting_for g.state (Some q)))

    set_pattern_origin_follows : (a : Axes) → set_pattern_origin j (moved m f) line a beside set_pattern_origin free f line' a
    unfolding set_pattern_origin wait_at
    set_pattern_origin_follows a s n n' =
        subst (λ (q : Point). Follows E j v n n' (wait_at q (progress (moved_state v.by s) n)) (set_pattern_origin free f line' a (progress s n')))
        (sym (target_moves v.by places m f s a))
        (follows_need TooFar line line' (w.nearness (target f s a))
        (follows_no_entry (waiting_for s (Some (target f s a))) n n'))

    -- ---- Patterns

    punches_follow : (p : Pattern) (start : Point) (k i : ℕ) → punches j (moved m f) line p (start ⊕ v.by) k i beside punches free f line' p start k i
    unfolding punches
    punches_follow p start zero i s n n' = follows_no_entry s n n'
    punches_follow p start (suc k) i s n n' =
        follows_then (punches j (moved m f) line p (start ⊕ v.by) k (suc i)) (punches free f line' p start k (suc i))
        (subst
        (λ (q : Point). Follows E j v n n' (punch j (moved m f) line q (progress (moved_state v.by s) n)) (punch free f line' (start ⊕ hit_offset p i) (progress s n')))
        (⊕-swap start (hit_offset p i) v.by)
        (punch_follows (start ⊕ hit_offset p i) s n n'))
        (punches_follow p start k (suc i))

    ending_follows :
        (p : Pattern) (start : Point) {n n' : Counts} {x y : Out (Made Progress)} → Follows E j v n n' x y
        → Follows E j v n n' (map_after (ending p (start ⊕ v.by)) x) (map_after (ending p start) y)
    ending_follows (Line pitch angle count) start r = follows_map (λ s. s) (λ s. s) r (λ s. refl)
    ending_follows (Arc radius angle step count) start r = follows_map (λ s. s) (λ s. s) r (λ s. refl)
    ending_follows (Circle radius angle clockwise count) start r = follows_map (λ s. moved_to s (start ⊕ v.by)) (λ s. moved_to s start) r (λ s. refl)
    ending_follows (Grid vertical pitch steps) start r = follows_map (λ s. s) (λ s. s) r (λ s. refl)
    ending_follows (Shear angle lengths) start r = follows_map (λ s. moved_to s (start ⊕ v.by)) (λ s. moved_to s start) r (λ s. refl)

    pattern_follows : (p : Pattern) → pattern j (moved m f) line p beside pattern free f line' p
    unfolding pattern
    pattern_follows p s n n' =
        rw (start_moves v.by s.waiting s.current)
        (follows_need ShearUnfit line line' (alike {t = shear_is_fit p})
        (follows_need TooFar line line' (w.reach (reach_is_near p))
        (ending_follows p (start_of s) (punches_follow p (start_of s) (hit_count p) 0 (moved_to (dropping s) (start_of s)) n n'))))

    run_pattern_follows : (p : Pattern) (t a : Option ℕ) → run_pattern j (moved m f) line p t a beside run_pattern free f line' p t a
    unfolding run_pattern
    run_pattern_follows p t a s n n' = pattern_follows p (remembering (choosing s t) a p) n n'

    recalled_follows : (o : Option Pattern) → recalled j (moved m f) line o beside recalled free f line' o
    unfolding pattern
    recalled_follows None s n n' = refusals
    recalled_follows (Some p) s n n' = pattern_follows p s n n'

    recall_follows : (k : ℕ) → recall j (moved m f) line k beside recall free f line' k
    unfolding recall
    recall_follows k s n n' = recalled_follows (get_or s.memories (k - 1) None) s n n'

    -- ---- Direct blocks

    carry_direct_follows : (d : Direct) → carry_direct j (moved m f) line d beside carry_direct free f line' d
    unfolding carry_direct
    carry_direct_follows Lone s n n' = follows_no_entry (dropping s) n n'
    carry_direct_follows (Punch a t) s n n' = position_follows a t s n n'
    carry_direct_follows (Move a t) s n n' = move_follows a t s n n'
    carry_direct_follows (PatternOrigin a) s n n' = set_pattern_origin_follows a s n n'
    carry_direct_follows (RunPattern p t a) s n n' = run_pattern_follows p t a s n n'
    carry_direct_follows (Recall k) s n n' = recall_follows k s n n'
    carry_direct_follows (Nibble b) s n n' = follows_no_entry (in_mode s b) n n'
    carry_direct_follows Idle s n n' = follows_no_entry s n n'
    carry_direct_follows (Stop optional) s n n' = follows_entry ListFull line (Entry.Stop optional) s n n'

  -- ---- Blocks and lines, for whatever calls do that follow each other

  module _
      (f : Frame) (m : Mirror) (sees : Sees v places f m) (c c' : Calls)
      (calls-follow : (f : Frame) (m : Mirror) → Sees v places f m → (k line line' : ℕ) → c (moved m f) k line beside c' f k line') where
    -- G73: the mirror that it opens inside those of each of the two, and both from origin to origin
    call_mirrored_follows : (line line' way part : ℕ) → call_mirrored c (moved m f) line way part beside call_mirrored c' f line' way part
    call_mirrored_follows line line' way part s n n' =
        follows_map (λ t. standing_at t (f.origin ⊕ v.by)) (λ t. standing_at t f.origin)
        (calls-follow (mirrored way (mirror_spans s) f) (opened way (mirror_spans s) m) (sees_mirrored v places f m way (mirror_spans s) sees) part line line'
        (standing_at s f.origin) n n')
        (λ t. refl)

    carry_call_follows : (line line' : ℕ) (x : Call) → carry_call c (moved m f) line x beside carry_call c' f line' x
    carry_call_follows line line' (Plain k) s n n' = calls-follow f m sees k line line' s n n'
    carry_call_follows line line' (Mirrored k) s n n' = call_mirrored_follows line line' k.way k.part (giving s k.axes) n n'

    carry_follows : (line line' : ℕ) (b : Block) → carry j c (moved m f) line b beside carry free c' f line' b
    unfolding carry
    carry_follows line line' (Block.Direct d) s n n' = carry_direct_follows f m sees line line' d s n n'
    carry_follows line line' (Block.Call x) s n n' = carry_call_follows line line' x s n n'
    carry_follows line line' (Block.Outside o) s n n' = refusals

    -- a block that has been decoded, if it could be, and counts or not
    abbrev decoded_block : Judging → Calls → Frame → ℕ → Bool → Result Instruction Refusal → State → Counts → Out (Made Progress)
    decoded_block j c f line counted o s n = ◌>>=◌ (in_line line o) (λ i. carry j c f line i.block (begun counted i.measure (progress s n)))

    decoded_follows :
        (line line' : ℕ) (counted : Bool) (o : Result Instruction Refusal) (s : State) (n n' : Counts)
        → Follows E j v (cond counted (another_block n) n) (cond counted (another_block n') n')
        (decoded_block j c (moved m f) line counted o (moved_state v.by s) n) (decoded_block free c' f line' counted o s n')
    decoded_follows line line' counted (Err number) s n n' = refusals
    decoded_follows line line' true (Ok i) s n n' = carry_follows line line' i.block (measuring s i.measure) (another_block n) (another_block n')
    decoded_follows line line' false (Ok i) s n n' = carry_follows line line' i.block (measuring s i.measure) n n'

    -- what is left of a block once it may come
    block-decoded :
        (k : Judging) (d : Calls) (e : Frame) (line : ℕ) (l : List ℕ) (s : State) (n : Counts)
        → run_block k d e line l (progress s n)
        ≡ ◌>>=◌ (need (may_come k l (progress s n)) BlocksSpent line) (λ _. decoded_block k d e line (is_counted l) (decode (reader_of e s) l) s n)
    unfolding run_block begin
    block-decoded k d e line l s n =
        >>=-assoc (need (may_come k l (progress s n)) BlocksSpent line) _ _
        ∙ ap (◌>>=◌ (need (may_come k l (progress s n)) BlocksSpent line)) (fun_ext (λ _. >>=-assoc (in_line line (decode (reader_of e s) l)) _ _))

    run_block_follows : (line line' : ℕ) (l : List ℕ) → run_block j c (moved m f) line l beside run_block free c' f line' l
    run_block_follows line line' l s n n' =
        rw (block-decoded j c (moved m f) line l (moved_state v.by s) n, block-decoded free c' f line' l s n') (go (is_counted l))
      where
        -- what both are read by
        reader : Reader
        reader = reader_of f s

        go :
            (counted : Bool)
            → Follows E j v n n'
            (◌>>=◌ (need (not counted || room j.blocks n.blocks) BlocksSpent line) (λ _. decoded_block j c (moved m f) line counted (decode reader l) (moved_state v.by s) n))
            (◌>>=◌ (need (not counted || room None n'.blocks) BlocksSpent line') (λ _. decoded_block free c' f line' counted (decode reader l) s n'))
        go true = follows_counted BlocksSpent line (decoded_follows line line' true (decode reader l) s n n')
        go false = decoded_follows line line' false (decode reader l) s n n'

    run_line_follows : (line line' : ℕ) (l : List ℕ) → run_line j c (moved m f) line l beside run_line free c' f line' l
    unfolding run_block
    run_line_follows line line' [] s n n' = follows_no_entry s n n'
    run_line_follows line line' (b ∷ bs) s n n' = run_block_follows line line' (b ∷ bs) s n n'

    run_lines_follow : (ls : List (List ℕ)) (line line' : ℕ) → run_lines j c (moved m f) line ls beside run_lines free c' f line' ls
    unfolding run_lines
    run_lines_follow [] line line' s n n' = follows_no_entry s n n'
    run_lines_follow (l ∷ ls) line line' s n n' =
        follows_then (run_lines j c (moved m f) (suc line) ls) (run_lines free c' f (suc line') ls)
        (run_line_follows line line' l s n n') (run_lines_follow ls (suc line) (suc line'))

  -- ---- Calls of what is stored, wherever it stands

  module _ (bodies bodies' : Bodies) (same : (k : ℕ) → bytes_of (bodies k) ≡ bytes_of (bodies' k)) where
    -- what is called, if it is stored: its lines
    called_follows :
        (o o' : Option Body) → bytes_of o ≡ bytes_of o' → (line line' : ℕ) (x y : Body → Progress → Out (Made Progress))
        → ((b b' : Body) → b.bytes ≡ b'.bytes → x b beside y b')
        → (λ g. ◌>>=◌ (given o NotStored line) (λ b. x b g)) beside (λ g. ◌>>=◌ (given o' NotStored line') (λ b. y b g))
    called_follows None None e line line' x y r s n n' = refusals
    called_follows None (Some b') e line line' x y r s n n' = let z : ◌≡◌ {A = ℕ} 0 1 = cc in absurd (omega arith)
    called_follows (Some b) None e line line' x y r s n n' = let z : ◌≡◌ {A = ℕ} 0 1 = cc in absurd (omega arith)
    called_follows (Some b) (Some b') e line line' x y r s n n' = r b b' (let h : Some b.bytes ≡ Some b'.bytes = e in cc) s n n'

    pub call_follows : (d : ℕ) (f : Frame) (m : Mirror) → Sees v places f m → (k line line' : ℕ) → call j bodies d (moved m f) k line beside call free bodies' d f k line'
    unfolding call
    call_follows zero f m sees k line line' =
        called_follows (bodies k) (bodies' k) (same k) line line' (λ b g. refused TooDeep line) (λ b g. refused TooDeep line') (λ b b' e s n n'. refusals)
    call_follows (suc d) f m sees k line line' =
        called_follows (bodies k) (bodies' k) (same k) line line'
        (λ b g. run_lines j (call j bodies d) (moved m f) b.line (lines b.bytes) g)
        (λ b g. run_lines free (call free bodies' d) f b.line (lines b.bytes) g)
        (λ b b' e. rw (ap lines e) (run_lines_follow f m sees (call j bodies d) (call free bodies' d) (call_follows d) (lines b'.bytes) b.line b'.line))

    -- a body carried out in a call
    pub run_body_follows :
        (d : ℕ) (f : Frame) (m : Mirror) → Sees v places f m → (b b' : Body) → b.bytes ≡ b'.bytes
        → Beside E j v (run_body j bodies d (moved_frame v.by places m f) b) (run_body (unlimited bounds) bodies' d f b')
    unfolding run_body
    run_body_follows d f m sees b b' e =
        rw (ap lines e) (run_lines_follow f m sees (call j bodies d) (call free bodies' d) (call_follows d) (lines b'.bytes) b.line b'.line)
