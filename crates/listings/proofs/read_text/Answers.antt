-- One read more: its bytes stand behind those that were there.
use Rattle.std.proofs.Common.{◌≡◌, sym, ap, ◌∙◌, subst, List, ℕ, ◌+◌, ◌++◌, ◌≤◌, length, take, drop, rules, take_at, drop_at, length-take-le}
use Rattle.std.proofs.KnownBytes.{Consumes-trans}
use Rattle.std.proofs.Math.Seq.{take-add, take-append-le}
use Rattle.std.specs.Io.KnownBytes.{Consumes}
use borrow.Rule.Slice.PartMut.{put_mid, post_of}
use Rattle.listings.proofs.read_text.Goals as goal

-- the front of a buffer that a part was read into
front : (buffer part : List ℕ) (at room count : ℕ) → at ≤ length buffer → count ≤ length part → take at buffer ++ take count part ≡ take (at + count) (put_mid at room buffer part)
front buffer part at room count within fits =
    let before = take at buffer in
    let after = part ++ post_of at room buffer in
    let cut : length before ≡ at = length-take-le at buffer within in
    sym (take-add at count (before ++ after)
    ∙ ap (λ l. l ++ take count (drop at (before ++ after))) (take_at before after at cut)
    ∙ ap (λ l. before ++ take count l) (drop_at before after at cut)
    ∙ ap (λ l. before ++ l) (take-append-le count part (post_of at room buffer) fits))

pub loop-done-preserved : goal.loop-done-preserved
loop-done-preserved g c =
    let p = c.loop-done in
    let n = c.in_ok-count in
    record {
      same_room = search rules;
      fits = search rules;
      given =
          subst (Consumes _ _) (front p.buffer c.read_some.new.part p.done _ n.count p.invariant.fits n.ensures.fits.0)
          (Consumes-trans _ _ _ _ _ p.invariant.given n.ensures.bytes.0);
    }
