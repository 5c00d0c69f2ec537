-- Laws of `copy_part`: one for each way through a G75 or G76 block, and the part without a block.
use Rattle.std.specs.Prelude.{None, Option, Some}
use Rattle.std.specs.Option.{is_some}
use mathlib.Core.Path.{◌≡◌, refl, sym, ap, fun_ext, ◌∙◌}
use mathlib.Core.Bool.{false, true≢false}
use mathlib.Core.List.{List}
use Prim.Native.Nat.{ℕ, ◌-◌}
use Rattle.aries.specs.declared.block.Copies.{Copies}
use Rattle.aries.specs.declared.block.Layout.{Layout}
use Rattle.aries.specs.declared.location.Location.{Location}
use Rattle.aries.specs.declared.reader.Reader.{Reader}
use Rattle.aries.specs.declared.refusal.Refusal.TheVariants.{NotStored, NoLayout}
use Rattle.aries.specs.declared.setup.Setup.{Setup}
use Rattle.aries.specs.declared.state.Frame.{Frame}
use Rattle.aries.specs.declared.state.Progress.{Progress}
use Rattle.aries.specs.Outcome.{Out, refused}
use Rattle.aries.specs.Entries.{Made, no_entry}
use Rattle.aries.specs.Judging.{Judging}
use Rattle.aries.specs.Layouts.{part_of, copy_part}
use Rattle.aries.specs.Macros.{Bodies, Body, call, most_calls, run_body}
use Rattle.aries.specs.Setup.{ordinary_frame}
use Rattle.stretches.specs.declared.Ahead.{Ahead}
use Rattle.stretches.specs.declared.Lines.{Lines}
use Rattle.stretches.specs.Stretches.{Stretch}
use Rattle.stretches.specs.Lookahead.{ahead, Read}
use Rattle.stretches.proofs.Lookahead.{ahead_nothing}
use Rattle.stretches.proofs.Stretches.{stretch_skip, stretch_end}
use Rattle.bodies.specs.declared.Body.{Body as Found}
use Rattle.bodies.specs.Stored.{body_of as found_body}
use Rattle.bodies.proofs.Lines.{followed, lines_stretched}
use Rattle.bodies.proofs.Thence.{thence}
use Rattle.copies.specs.Copying.{body_of, blank_part, all_copies}

-- ---- The ways through a block

module _ (j : Judging) (bodies : Bodies) (s : Setup) (line : ℕ) (c : Copies) (g : Progress) where
  pub part_missing : bodies c.part ≡ None → copy_part j bodies s line c g ≡ refused NotStored line
  unfolding copy_part
  part_missing h = simp h

  module _ {b : Body} (found : bodies c.part ≡ Some b) where
    pub no_layout : s.sheet ≡ None → copy_part j bodies s line c g ≡ refused NoLayout line
    unfolding copy_part
    no_layout h = simp (found, h)

    pub part-copied : {l : Layout} → s.sheet ≡ Some l
        → copy_part j bodies s line c g ≡ all_copies j (part_of j bodies b) (ordinary_frame s) line (record { origin = s.origin; layout = l; copies = c }) g
    unfolding copy_part
    part-copied h = simp (found, h)

-- ---- The part

-- lines read from the start of a body are the whole of it
pub whole_body : (l : Lines) (b : Found) {at : Location} → l.text.now ≡ b.bytes.now → l.from ≡ at → at ≡ record { offset = 0; line = b.line } → body_of l.from l.text.now ≡ found_body b
whole_body l b text place start = rw (text, place, start) refl

-- without a block
pub part_blank : (r : Reader) (j : Judging) (bodies : Bodies) (from : Location) (t : List ℕ) → ahead r t from ≡ None → part_of j bodies (body_of from t) ≡ blank_part
unfolding run_body
part_blank r j bodies from t none = fun_ext (λ f. fun_ext (λ g. blank f g))
  where
    blank : (f : Frame) (g : Progress) → part_of j bodies (body_of from t) f g ≡ no_entry g
    blank f g =
        let calls = call j bodies (most_calls - 1) in
        lines_stretched j calls f t from g
        ∙ ap (λ (s : Out (Made Stretch)). thence s (followed j calls f t)) (stretch_skip j f t from g ∙ stretch_end j f t _ g (ahead_nothing r t from none))

-- the same of lines that have been read
pub lines_blank : (j : Judging) (bodies : Bodies) {r : Reader} (l : Lines) → Read r l → is_some l.first ≡ false → part_of j bodies (body_of l.from l.text.now) ≡ blank_part
lines_blank j bodies {r} l read none = part_blank r j bodies l.from l.text.now (sym read.first ∙ nothing l.first none)
  where
    nothing : (o : Option Ahead) → is_some o ≡ false → o ≡ None
    nothing None e = refl
    nothing (Some x) e = absurd (true≢false e)
