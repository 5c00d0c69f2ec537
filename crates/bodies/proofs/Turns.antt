-- A turn of the block runner: whoever carries out the lines from a place on has carried out the whole. So it ends with the stretch
-- there or with the block behind it, or else that is a call, and the lines behind the call are left.
use Rattle.std.specs.Prelude.{Err, Ok}
use Prim.Native.Nat.{ℕ}
use lib.ListN.{drop}
use Rattle.aries.specs.declared.block.Call.{Call}
use Rattle.aries.specs.declared.block.Outside.{Outside}
use Rattle.aries.specs.declared.location.Location.{Location}
use Rattle.aries.specs.declared.refusal.Refusal.TheVariants.{OutOfPlace}
use Rattle.aries.specs.declared.refusal.Refused.{Refused}
use Rattle.aries.specs.declared.state.Frame.{Frame}
use Rattle.aries.specs.declared.state.Progress.{Progress}
use Rattle.aries.specs.Outcome.{Out, refused}
use Rattle.aries.specs.Entries.{Made}
use Rattle.aries.specs.Judging.{limits}
use Rattle.aries.specs.Macros.{Calls, carry_call, run_lines}
use Rattle.aries.specs.Runs.{Lent, entries_made, Ran}
use Rattle.aries.specs.Steady.{GivenNear}
use Rattle.aries.specs.Text.{lines}
use Rattle.aries.proofs.Runs.{Leads, leads_as, leads_on, leads_out, leads_end, ran-refused}
use Rattle.stretches.specs.declared.Lines.{Lines}
use Rattle.stretches.specs.declared.Sequel.TheVariants as Sequel
use Rattle.stretches.specs.Stretches.{Stretch, going, ending_at, stretch, Stretches}
use Rattle.stretches.proofs.Sequels.{Behind, left_made, stretch-behind}
use Rattle.stretches.proofs.Nearness.{StretchNear, stretch-near}
use Rattle.bodies.proofs.Lines.{followed, lines_stretched}
use Rattle.bodies.proofs.Thence.{thence, stretch_refused, leads_behind}

module _ (source : Lines) (f : Frame) (g : Progress) where
  -- the stretch of the lines
  abbrev pub Stretched : Out Stretch → Lent → Lent → Type 0
  Stretched r before after = Stretches r f before after g (λ j. stretch j f source.from (lines (drop source.from.offset source.text.now)))

  -- ---- What was carried out

  module _
      (c : Calls) {l l₀ : Lent} {k₀ : ℕ} {whole : Out (Made Progress)}
      (lead : Leads entries_made f.job l g.entries (run_lines (limits f.job) c f source.from.line (lines (drop source.from.offset source.text.now)) g) l₀ k₀ whole) where
    stretch_leads : Leads entries_made f.job l g.entries (thence (stretch (limits f.job) f source.from (lines (drop source.from.offset source.text.now)) g) (followed (limits f.job) c f source.text.now)) l₀ k₀ whole
    stretch_leads = leads_as (lines_stretched (limits f.job) c f source.text.now source.from g) lead

    -- the stretch is refused
    pub stretch_ends : {e : Refused} {mid after : Lent} → Stretched (Err e) l mid → Ran entries_made f.job (Err e) l₀ after k₀ whole
    stretch_ends st = stretch_leads _ _ (stretch_refused _ _ st)

    behind_it : {s : Stretch} {mid : Lent} → Stretched (Ok s) l mid → Leads entries_made f.job mid s.progress.entries (followed (limits f.job) c f source.text.now s) l₀ k₀ whole
    behind_it st = leads_behind _ (followed (limits f.job) c f source.text.now) st stretch_leads

    -- nothing comes behind it
    pub lines_over : {left : Progress} {mid : Lent} → Stretched (Ok (going left)) l mid → Ran entries_made f.job (Ok left) l₀ mid k₀ whole
    lines_over st = leads_end (behind_it st)

    -- a block that is out of place
    pub out_of_place :
        {left : Progress} {o : Outside} {end : Location} {mid after : Lent} → Stretched (Ok (ending_at left (Sequel.Outside o end))) l mid
        → Ran entries_made f.job (refused OutOfPlace end.line) l₀ after k₀ whole
    out_of_place st = behind_it st _ _ ran-refused

    module _ {now : Progress} {block : Call} {end : Location} {mid : Lent} (st : Stretched (Ok (ending_at now (Sequel.Call block end))) l mid) where
      -- a call that is refused
      pub call_refused :
          {e : Refused} {after : Lent} → Ran entries_made f.job (Err e) mid after now.entries (carry_call c f end.line block now)
          → Ran entries_made f.job (Err e) l₀ after k₀ whole
      call_refused ran = leads_out _ _ ran (behind_it st)

      -- a call that is not
      pub call_passed :
          {left : Progress} {after : Lent} → Ran entries_made f.job (Ok left) mid after now.entries (carry_call c f end.line block now)
          → Leads entries_made f.job after left.entries (run_lines (limits f.job) c f end.line (lines (drop end.offset source.text.now)) left) l₀ k₀ whole
      call_passed ran = leads_on _ _ ran (behind_it st)

  -- ---- A call behind a stretch

  module _ {now : Progress} {block : Call} {end : Location} {before after : Lent} (st : Stretched (Ok (ending_at now (Sequel.Call block end))) before after) where
    -- its line ends behind the place, within the text
    pub call_behind : Behind source.text.now source.from end
    call_behind = left_made _ st.same (stretch-behind source.text.now (limits f.job) f source.from g)

    -- it is short, and so are the letters given
    pub call_near : GivenNear g.state → StretchNear (ending_at now (Sequel.Call block end))
    call_near given = left_made _ st.same (stretch-near (limits f.job) f (lines (drop source.from.offset source.text.now)) source.from g given)
