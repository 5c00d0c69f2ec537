-- Past 1, what is refused has a number from 2 to 18 and a line of the text, and what is done has hits with tools from 1 to 99: one
-- law a definition, from an entry up to the copies of a part, where all that is stored lies within the lines of the text and the
-- tool that is found, if there is one, is from 1 to 99.
use Rattle.std.specs.Prelude.{Err, IfSome, None, Ok, Option, Some}
use mathlib.Core.Path.{◌≡◌, refl}
use mathlib.Core.Bool.{Bool, true, false, cond, ◌&&◌}
use mathlib.Core.List.{List, [], ◌∷◌, ◌++◌}
use Rattle.std.specs.Prelude.{None, Some}
use Prim.Native.Nat.{ℕ, zero, suc, ◌+◌, ◌-◌, ◌≤◌}
use native.Mathlib.Omega.{arith}
use lib.ListN.{length, get_or}
use Rattle.signed.proofs.Tests.{and_right}
use Rattle.aries.specs.declared.refusal.Refused.{Refused}
use Rattle.aries.specs.declared.refusal.Refusal.{Refusal}
use Rattle.aries.specs.declared.block.Layout.{Layout}
use Rattle.aries.specs.declared.refusal.Refusal.TheVariants.{BlocksSpent, NotListed, WrongNumber, NotStored, NoTool, TooFar, OutOfRange, ListFull, ShearUnfit}
use Rattle.aries.specs.declared.block.Direct.{Direct}
use Rattle.aries.specs.declared.block.Direct.TheVariants.{Lone, Punch, Move, PatternOrigin, RunPattern, Recall, Nibble, Idle, Stop}
use Rattle.aries.specs.declared.block.Call.{Call}
use Rattle.aries.specs.declared.block.Call.TheVariants.{Plain, Mirrored}
use Rattle.aries.specs.declared.block.Block.{Block}
use Rattle.aries.specs.declared.block.Axes.{Axes}
use Rattle.aries.specs.declared.block.Copies.{Copies}
use Rattle.aries.specs.declared.block.Instruction.{Instruction}
use Rattle.aries.specs.declared.block.Kind.{Kind}
use Rattle.aries.specs.declared.block.Pattern.{Pattern}
use Rattle.aries.specs.declared.point.Point.{Point}
use Rattle.aries.specs.declared.reader.Reader.{Reader}
use Rattle.aries.specs.declared.reader.Setting.{Setting}
use Rattle.aries.specs.declared.setup.Setup.{Setup}
use Rattle.aries.specs.declared.state.Frame.{Frame}
use Rattle.aries.specs.declared.state.Progress.{Progress}
use Rattle.aries.specs.declared.state.State.{State}
use Rattle.aries.specs.Test.{within}
use Rattle.aries.specs.Outcome.{refusal_number, Out, ◌>>=◌, need, given, in_line}
use Rattle.aries.specs.Text.{lines}
use Rattle.aries.specs.Words.{LetterWord, words}
use Rattle.aries.specs.Reader.{reader_of}
use Rattle.aries.specs.ByLetter.{Letters, by_letter}
use Rattle.aries.specs.declared.word.Words.{Words}
use Rattle.aries.specs.Forms.{in_places, kind_of, is_listed}
use Rattle.aries.specs.Numbers.{in_hundredths, lengths_fit, is_ranged}
use Rattle.aries.specs.Blocks.{block_of, instruction_of, listed_as, decode_words, decoded, decode}
use Rattle.aries.specs.declared.entry.Entry.{Entry}
use Rattle.aries.specs.Entries.{hits_in, Made, no_entry, adding, and_then, map_after}
use Rattle.aries.specs.Judging.{Judging, room, judged, near}
use Rattle.aries.specs.Machine.{in_range}
use Rattle.aries.specs.Mirrors.{seen}
use Rattle.aries.specs.Moves.{◌⊕◌, moved_to, target, enter, hit_of, punch, position, move, set_pattern_origin, choosing, dropping, remembering, with_state}
use Rattle.aries.specs.Patterns.{hit_offset, hit_count, reach_is_near, shear_is_fit, punches, start_of, starting, ending, pattern, run_pattern, recalled, recall}
use Rattle.aries.specs.Macros.{Body, Bodies, Calls, carry_direct, at_origin, carry_call, carry, may_come, Begun, begun_by, begin, run_block, run_line, run_lines, call, most_calls, run_body}
use Rattle.aries.specs.Setup.{ordinary_frame, frame_at}
use Rattle.aries.specs.Layouts.{copy_start, copy, copy_all, copy_count, copy_place, part_of, copy_over, copy_part}
use Rattle.aries.specs.Tools.{AllNamed}
use Rattle.aries.proofs.OneTool.{ending_tool}
use Rattle.aries.proofs.ToolWords.{IsTool, DirectFits, BlockFits, words_fit}

-- ---- What is refused, and what is done

-- a line of a text, by the number of its lines
pub record LineOf (last line : ℕ) : Type 0 where
  pub from : 1 ≤ line
  pub to : line ≤ last

-- a number past 1
abbrev pub is_number : Refusal → Bool
is_number refusal = within 2 18 (refusal_number refusal)

-- the hits among entries have tools from 1 to 99
abbrev pub HitsNamed : List Entry → Type 0
HitsNamed entries = AllNamed (hits_in entries)

-- those of two lists, one after the other
named_both : (es fs : List Entry) → HitsNamed es → HitsNamed fs → HitsNamed (es ++ fs)
unfolding AllNamed hits_in
named_both [] fs h k = k
named_both (Entry.Hit e ∷ es) fs h k = (h.0, h.1, named_both es fs h.2 k)
named_both (Entry.Stop optional ∷ es) fs h k = named_both es fs h k

-- a refusal has such a number and such a line, a result a property
abbrev pub Answered : {A : Type 0} → ℕ → (A → Type 0) → Out A → Type 0
Answered last P (Ok a) = P a
Answered last P (Err e) = is_number e.refusal ≡ true × LineOf last e.line

-- so it is with the property of the result,
pub record Proper {A : Type 0} (last : ℕ) (P : A → Type 0) (x : Out A) : Type 0 where
  pub answered : Answered last P x

-- and so with a property of what is left, the hits that were made having such tools
pub record Sound {A : Type 0} (last : ℕ) (P : A → Type 0) (x : Out (Made A)) : Type 0 where
  pub answered : Answered last (λ m. P m.after × HitsNamed m.entries) x

-- of every result
abbrev pub Any : {A : Type 0} → A → Type 0
Any a = Unit {0}

-- ---- The tool

-- the tool that is chosen is from 1 to 99, if one is
abbrev pub ToolFits : Progress → Type 0
ToolFits g = IfSome g.state.tool IsTool

-- what is sound from there on, and leaves it so
abbrev pub SoundFrom : ℕ → (Progress → Out (Made Progress)) → Type 0
SoundFrom last step = (g : Progress) → ToolFits g → Sound last ToolFits (step g)

-- a T from 1 to 99 may be chosen
choosing-fits : (g : Progress) (t : Option ℕ) → ToolFits g → IfSome t IsTool → ToolFits (with_state g (choosing g.state t))
choosing-fits g None fits own = fits
choosing-fits g (Some t) fits own = own

-- no pattern changes it as it ends
ending-fits : (p : Pattern) (start : Point) (g : Progress) → ToolFits g → ToolFits (ending p start g)
ending-fits p start g fits = rw (ending_tool p start g) fits

-- a block that begins has such a T, and finds such a tool
abbrev pub BegunFits : Begun → Type 0
BegunFits b = BlockFits b.block × ToolFits b.progress

-- ---- What is stored

-- a body lies within the lines of the text
pub record BodyOf (last : ℕ) (b : Body) : Type 0 where
  pub from : 1 ≤ b.line
  pub to : b.line + length (lines b.bytes) ≤ suc last

abbrev pub BodiesOf : ℕ → Bodies → Type 0
BodiesOf last bodies = (n : ℕ) → IfSome (bodies n) (BodyOf last)

-- calls from its lines
abbrev pub CallsOf : ℕ → Calls → Type 0
CallsOf last calls = (f : Frame) (n line : ℕ) → LineOf last line → SoundFrom last (calls f n line)

module _ {last : ℕ} where
  -- ---- Outcomes

  pub sound_refused : {A : Type 0} {P : A → Type 0} {e : Refused} → is_number e.refusal ≡ true → LineOf last e.line → Sound last P (Err e)
  sound_refused n h = record { answered = (n, h) }

  -- no entry is made
  pub sound_ok : {A : Type 0} {P : A → Type 0} {a : A} → P a → Sound last P (no_entry a)
  unfolding AllNamed hits_in
  sound_ok h = record { answered = (h, tt) }

  pub sound_bind :
      {A B : Type 0} {P : A → Type 0} {Q : B → Type 0} (x : Out A) (f : A → Out (Made B)) → Proper last P x
      → ((a : A) → P a → Sound last Q (f a)) → Sound last Q (◌>>=◌ x f)
  sound_bind (Ok a) f h k = k a h.answered
  sound_bind (Err e) f h k = record { answered = h.answered }

  -- a test, and what comes after it where it passes
  sound_passed :
      {A : Type 0} {P : A → Type 0} (t : Bool) (refusal : Refusal) {line : ℕ} {x : Out (Made A)} → is_number refusal ≡ true → LineOf last line
      → (t ≡ true → Sound last P x) → Sound last P (◌>>=◌ (need t refusal line) (λ _. x))
  sound_passed true refusal n h k = k refl
  sound_passed false refusal n h k = sound_refused n h

  pub sound_need :
      {A : Type 0} {P : A → Type 0} (t : Bool) (refusal : Refusal) {line : ℕ} {x : Out (Made A)} → is_number refusal ≡ true → LineOf last line → Sound last P x
      → Sound last P (◌>>=◌ (need t refusal line) (λ _. x))
  sound_need t refusal n h k = sound_passed t refusal n h (λ _. k)

  pub sound_given :
      {A B : Type 0} (P : A → Type 0) {Q : B → Type 0} (o : Option A) (refusal : Refusal) {line : ℕ} {k : A → Out (Made B)} → is_number refusal ≡ true
      → LineOf last line → IfSome o P → ((a : A) → P a → Sound last Q (k a)) → Sound last Q (◌>>=◌ (given o refusal line) k)
  sound_given P None refusal n h s rest = sound_refused n h
  sound_given P (Some a) refusal n h s rest = rest a s

  sound_adding :
      {A : Type 0} {P : A → Type 0} (es : List Entry) (x : Out (Made A)) → HitsNamed es → Sound last P x → Sound last P (adding es x)
  sound_adding es (Ok r) n h = record { answered = (h.answered.0, named_both es r.entries n h.answered.1) }
  sound_adding es (Err e) n h = record { answered = h.answered }

  pub sound_then :
      {A : Type 0} {P : A → Type 0} (x : Out (Made A)) (f : A → Out (Made A)) → Sound last P x → ((a : A) → P a → Sound last P (f a))
      → Sound last P (and_then x f)
  sound_then (Ok m) f h k = sound_adding m.entries (f m.after) h.answered.1 (k m.after h.answered.0)
  sound_then (Err e) f h k = record { answered = h.answered }

  pub sound_map :
      {A B : Type 0} {P : A → Type 0} {Q : B → Type 0} (f : A → B) (x : Out (Made A)) → Sound last P x → ((a : A) → P a → Q (f a))
      → Sound last Q (map_after f x)
  sound_map f (Ok m) h k = record { answered = (k m.after h.answered.0, h.answered.1) }
  sound_map f (Err e) h k = record { answered = h.answered }

  -- ---- A direct block, in a line of the text

  module _ (j : Judging) (f : Frame) (line : ℕ) (h : LineOf last line) where
    enter_sound : (e : Entry) → HitsNamed (e ∷ []) → SoundFrom last (enter j line e)
    enter_sound e named g fits = sound_need (room j.places g.entries) ListFull refl h (record { answered = (fits, named) })

    -- past 14 a tool is chosen
    punch_sound : (p : Point) → SoundFrom last (punch j f line p)
    unfolding punch AllNamed hits_in
    punch_sound p g fits =
        sound_given IsTool g.state.tool NoTool refl h fits λ tool is.
        sound_need (judged j.bounds (near (seen f p))) TooFar refl h
        (sound_need (judged j.bounds (in_range f (seen f p))) OutOfRange refl h
        (enter_sound (hit_of tool g.state (seen f p)) (is.0, is.1, tt) (with_state g (moved_to g.state p)) fits))

    move_sound : (a : Axes) (t : Option ℕ) → IfSome t IsTool → SoundFrom last (move j f line a t)
    unfolding move
    move_sound a t own g fits =
        sound_need (judged j.bounds (near (seen f (target f g.state a)))) TooFar refl h
        (sound_need (judged j.bounds (in_range f (seen f (target f g.state a)))) OutOfRange refl h (sound_ok (choosing-fits g t fits own)))

    set_pattern_origin_sound : (a : Axes) → SoundFrom last (set_pattern_origin j f line a)
    unfolding set_pattern_origin
    set_pattern_origin_sound a g fits = sound_need (judged j.bounds (near (target f g.state a))) TooFar refl h (sound_ok fits)

    punches_sound : (p : Pattern) (start : Point) (n k : ℕ) → SoundFrom last (punches j f line p start n k)
    unfolding punches
    punches_sound p start zero k g fits = sound_ok fits
    punches_sound p start (suc n) k g fits =
        sound_then (punch j f line (start ⊕ hit_offset p k) g) _ (punch_sound (start ⊕ hit_offset p k) g fits) (punches_sound p start n (suc k))

    pattern_sound : (p : Pattern) → SoundFrom last (pattern j f line p)
    unfolding pattern
    pattern_sound p g fits =
        sound_need (shear_is_fit p) ShearUnfit refl h
        (sound_need (judged j.bounds (reach_is_near p)) TooFar refl h
        (sound_map (ending p (start_of g.state)) _ (punches_sound p (start_of g.state) (hit_count p) 0 (starting g) fits) (ending-fits p (start_of g.state))))

    recalled_sound : (s : Option Pattern) → SoundFrom last (recalled j f line s)
    recalled_sound None g fits = sound_refused refl h
    recalled_sound (Some p) g fits = pattern_sound p g fits

    carry_direct_sound : (d : Direct) → DirectFits d → SoundFrom last (carry_direct j f line d)
    unfolding carry_direct position run_pattern recall AllNamed hits_in
    carry_direct_sound Lone own g fits = sound_ok fits
    carry_direct_sound (Punch a t) own g fits =
        punch_sound (target f g.state a) (with_state g (dropping (choosing g.state t))) (choosing-fits g t fits own)
    carry_direct_sound (Move a t) own g fits = move_sound a t own g fits
    carry_direct_sound (PatternOrigin a) own g fits = set_pattern_origin_sound a g fits
    carry_direct_sound (RunPattern p t a) own g fits =
        pattern_sound p (with_state g (remembering (choosing g.state t) a p)) (choosing-fits g t fits own)
    carry_direct_sound (Recall n) own g fits = recalled_sound (get_or g.state.memories (n - 1) None) g fits
    carry_direct_sound (Nibble b) own g fits = sound_ok fits
    carry_direct_sound Idle own g fits = sound_ok fits
    carry_direct_sound (Stop optional) own g fits = enter_sound (Entry.Stop optional) tt g fits

  -- ---- A line begins

  -- 4 to 6: what passes has such a T
  decoded_proper :
      (r : Reader) (line : ℕ) → LineOf last line → (o : Option (List LetterWord))
      → Proper last (λ i. BlockFits i.block) (in_line line (decoded r o))
  unfolding decode_words
  decoded_proper r line h None = record { answered = (refl, h) }
  decoded_proper r line h (Some ws) = of_kind (kind_of w)
    where
      w : Words
      w = by_letter ws

      s : Setting
      s = r.setting

      of_kind : (o : Option Kind) → Proper last (λ i. BlockFits i.block) (in_line line (listed_as r ws o))
      of_kind None = record { answered = (refl, h) }
      of_kind (Some k) =
          go (in_places ws && is_listed r.given w k) (lengths_fit s k w.letters && is_ranged m k) (λ e. words_fit s k w.letters (and_right (lengths_fit s k w.letters) _ e))
        where
          m : Letters
          m = in_hundredths s k w.letters

          go :
              (listed ranged : Bool) → (ranged ≡ true → BlockFits (block_of m k))
              → Proper last (λ i. BlockFits i.block) (in_line line (cond listed (cond ranged (Ok (instruction_of k w.measure m)) (Err WrongNumber)) (Err NotListed)))
          go false ranged own = record { answered = (refl, h) }
          go true false own = record { answered = (refl, h) }
          go true true own = record { answered = own refl }

  pub begin_proper :
      (j : Judging) (f : Frame) (line : ℕ) → LineOf last line → (l : List ℕ) (g : Progress) → ToolFits g → Proper last BegunFits (begin j f line l g)
  unfolding begin decode
  begin_proper j f line h l g fits =
      go (may_come j l g) (in_line line (decoded (reader_of f g.state) (words l))) (decoded_proper (reader_of f g.state) line h (words l))
    where
      go :
          (t : Bool) (x : Out Instruction) → Proper last (λ i. BlockFits i.block) x
          → Proper last BegunFits (◌>>=◌ (need t BlocksSpent line) (λ _. ◌>>=◌ x (λ i. Ok (begun_by l g i))))
      go false x k = record { answered = (refl, h) }
      go true (Ok i) k = record { answered = (k.answered, fits) }
      go true (Err e) k = record { answered = k.answered }

  -- ---- The lines of bodies

  module _ (j : Judging) (calls : Calls) (sound : CallsOf last calls) (f : Frame) where
    carry_call_sound : (line : ℕ) → LineOf last line → (c : Call) → SoundFrom last (carry_call calls f line c)
    carry_call_sound line h (Plain n) g fits = sound f n line h g fits
    carry_call_sound line h (Mirrored m) g fits = sound_map (at_origin f) _ (sound _ m.part line h _ fits) (λ left fits. fits)

    pub carry_sound : (line : ℕ) → LineOf last line → (b : Block) → BlockFits b → SoundFrom last (carry j calls f line b)
    unfolding carry
    carry_sound line h (Block.Direct d) own g fits = carry_direct_sound j f line h d own g fits
    carry_sound line h (Block.Call c) own g fits = carry_call_sound line h c g fits
    carry_sound line h (Block.Outside o) own g fits = sound_refused refl h

    run_line_sound : (line : ℕ) → LineOf last line → (l : List ℕ) → SoundFrom last (run_line j calls f line l)
    unfolding run_block
    run_line_sound line h [] g fits = sound_ok fits
    run_line_sound line h (c ∷ l) g fits =
        sound_bind (begin j f line (c ∷ l) g) _ (begin_proper j f line h (c ∷ l) g fits) (λ b k. carry_sound line h b.block k.0 b.progress k.1)

    run_lines_sound : (line : ℕ) (ls : List (List ℕ)) → 1 ≤ line → line + length ls ≤ suc last → SoundFrom last (run_lines j calls f line ls)
    unfolding run_lines
    run_lines_sound line [] a b g fits = sound_ok fits
    run_lines_sound line (l ∷ ls) a b g fits =
        sound_then (run_line j calls f line l g) _ (run_line_sound line (record { from = a; to = omega arith }) l g fits)
        (run_lines_sound (suc line) ls (omega arith) (omega arith))

  module _ (j : Judging) (bodies : Bodies) (stored : BodiesOf last bodies) where
    pub call_sound : (d : ℕ) → CallsOf last (call j bodies d)
    unfolding call
    call_sound zero f n line h g fits = sound_given (BodyOf last) (bodies n) NotStored refl h (stored n) (λ b _. sound_refused refl h)
    call_sound (suc d) f n line h g fits =
        sound_given (BodyOf last) (bodies n) NotStored refl h (stored n)
        (λ b k. run_lines_sound j (call j bodies d) (call_sound d) f b.line (lines b.bytes) k.from k.to g fits)

    pub run_body_sound : (d : ℕ) (f : Frame) (b : Body) → BodyOf last b → SoundFrom last (run_body j bodies d f b)
    unfolding run_body
    run_body_sound d f b k g fits = run_lines_sound j (call j bodies d) (call_sound d) f b.line (lines b.bytes) k.from k.to g fits

    -- ---- Copies

    module _ (line : ℕ) (h : LineOf last line) where
      -- each begins with the tool that the run found
      copy_all_sound :
          (b : Body) → BodyOf last b → (f : Frame) (found : State) → IfSome found.tool IsTool → (place : ℕ → Point) (n m : ℕ)
          → SoundFrom last (copy_all j (part_of j bodies b) f line found place n m)
      unfolding copy_all copy
      copy_all_sound b k f found own place zero m g fits = sound_ok fits
      copy_all_sound b k f found own place (suc n) m g fits =
          sound_then (copy j (part_of j bodies b) f line found (place m) g) _
          (sound_need (judged j.bounds (near (place m))) TooFar refl h
          (run_body_sound (most_calls - 1) (frame_at f (place m)) b k (with_state g (copy_start found (place m))) own))
          (copy_all_sound b k f found own place n (suc m))

      copy_over_sound : (b : Body) → BodyOf last b → (s : Setup) (c : Copies) (sheet : Option Layout) → SoundFrom last (copy_over j bodies b s line c sheet)
      copy_over_sound b k s c None g fits = sound_refused refl h
      copy_over_sound b k s c (Some l) g fits = copy_all_sound b k (ordinary_frame s) g.state fits (copy_place s.origin l c) (copy_count l) 0 g fits

      pub copy_part_sound : (s : Setup) (c : Copies) → SoundFrom last (copy_part j bodies s line c)
      unfolding copy_part
      copy_part_sound s c g fits =
          sound_given (BodyOf last) (bodies c.part) NotStored refl h (stored c.part) (λ b k. copy_over_sound b k s c s.sheet g fits)
