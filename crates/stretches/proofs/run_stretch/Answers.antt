-- Each exit, and each block that is carried out, is one of the laws of `Turns`.
use Rattle.std.specs.Prelude.{Err}
use mathlib.Core.Path.{◌≡◌, refl, sym, ap, ◌∙◌}
use borrow.Author.Rules.{rules}
use lib.ListN.{drop}
use Rattle.aries.specs.declared.reader.Reader.{Reader}
use Rattle.aries.specs.Judging.{limits}
use Rattle.aries.specs.Reader.{reader_of}
use Rattle.aries.specs.Text.{lines}
use Rattle.aries.proofs.Runs.{leads-start, leads_as, leads_on, leads_out, leads_end, ran-map}
use Rattle.stretches.specs.Lookahead.{ahead}
use Rattle.stretches.specs.Stretches.{going, onward, stretch}
use Rattle.stretches.proofs.Turns.{known_ahead, rest_ahead, rest_by, turn_fits, turn_less, turn_refused, turn_begun}
use Rattle.stretches.proofs.run_stretch.Goals as goal

pub loop-next-init : goal.loop-next-init
loop-next-init c =
    let a = c.args in
    let s = a.source in
    let g = a.progress.now in
    let r = reader_of a.frame g.state in
    record {
      known = known_ahead r s.text.now s.from s.first c.requires.read.first c.requires.read.fits;
      leads = leads-start (sym (rest_ahead r s.text.now s.from s.first c.requires.read.first (limits a.frame.job) a.frame g));
    }

pub returns-in_err-block : goal.returns-in_err-block
returns-in_err-block c =
    let h = c.loop-next in
    let e : c.from_residual.result ≡ Err c.in_err-block.field-0.0 = search rules in
    rw e (turn_refused c.args.frame h.progress c.begin.new.progress c.in-Some.is h.invariant.known c.begin.ensures h.invariant.leads c.in_err-block.was)

pub returns-in_err-carry_direct-in-Direct : goal.returns-in_err-carry_direct-in-Direct
returns-in_err-carry_direct-in-Direct c =
    let h = c.loop-next in
    let e : c.from_residual-in_err-carry_direct-in-Direct.result ≡ Err c.in_err-carry_direct-in-Direct.field-0.0 = search rules in
    let lead = turn_begun c.args.frame h.progress c.begin.new.progress c.in-Some.is h.invariant.known c.begin.ensures h.invariant.leads c.in_ok-block.was in
    rw e (leads_out _ _ (ran-map going (λ p. refl) _ (rw c.in_err-carry_direct-in-Direct.was at c.carry_direct.ensures)) (rw c.in-Direct.is at lead))

pub returns-in-Call : goal.returns-in-Call
returns-in-Call c =
    let h = c.loop-next in
    leads_end (rw c.in-Call.is at (turn_begun c.args.frame h.progress c.begin.new.progress c.in-Some.is h.invariant.known c.begin.ensures h.invariant.leads c.in_ok-block.was))

pub returns-in-Outside : goal.returns-in-Outside
returns-in-Outside c =
    let h = c.loop-next in
    leads_end (rw c.in-Outside.is at (turn_begun c.args.frame h.progress c.begin.new.progress c.in-Some.is h.invariant.known c.begin.ensures h.invariant.leads c.in_ok-block.was))

-- ---- And on to what is ahead

pub loop-next-smaller : goal.loop-next-smaller
loop-next-smaller c =
    let h = c.loop-next in
    turn_less c.args.frame h.progress c.begin.new.progress c.in-Some.is h.invariant.known c.begin.ensures c.in_ok-block.was c.reader_of.result c.look_ahead-next.result c.look_ahead-next.ensures

pub loop-next-preserved : goal.loop-next-preserved
loop-next-preserved c =
    let a = c.args in
    let t = a.source.text.now in
    let h = c.loop-next in
    let g = c.carry_direct.new.progress in
    let r = reader_of a.frame g.state in
    let end = c.in_ok-block.end in
    let is = c.look_ahead-next.ensures ∙ ap (λ (r : Reader). ahead r t end) c.reader_of.ensures in
    let fits = turn_fits a.frame h.progress c.begin.new.progress c.in-Some.is h.invariant.known c.begin.ensures c.in_ok-block.was in
    let lead = turn_begun a.frame h.progress c.begin.new.progress c.in-Some.is h.invariant.known c.begin.ensures h.invariant.leads c.in_ok-block.was in
    record {
      known = known_ahead r t end c.look_ahead-next.result is fits;
      leads =
          leads_as (rest_ahead r t end c.look_ahead-next.result is (limits a.frame.job) a.frame g)
          (leads_on _ (onward (stretch (limits a.frame.job) a.frame end (lines (drop end.offset t)))) (ran-map going (λ p. refl) _ (rw c.in_ok-carry_direct-in-Direct.was at c.carry_direct.ensures)) (rw c.in-Direct.is at lead));
    }

pub returns : goal.returns
returns c =
    leads_end (leads_as (ap (rest_by (limits c.args.frame.job) c.args.frame c.args.source.text.now c.loop-next.progress) c.in_default.is) c.loop-next.invariant.leads)
