-- Laws of `ahead`: what is known of a block that is ahead, and of the end.
use Rattle.std.specs.Prelude.{Some, None}
use Rattle.std.proofs.lemmas.Option.{none-some, same_Some}
use mathlib.Core.Path.{◌≡◌, refl, sym, ◌∙◌, subst}
use mathlib.Core.Bool.{Bool, true, false}
use mathlib.Core.List.{List}
use Prim.Native.Nat.{ℕ, ◌<◌, ◌≤◌}
use borrow.Author.Tests.{ltb-true, ltb-false, lt-ltb, le-ltb}
use lib.Dec.{ltb}
use lib.ListN.{length, get_or}
use Rattle.aries.specs.declared.location.Location.{Location}
use Rattle.aries.specs.declared.reader.Reader.{Reader}
use Rattle.aries.specs.Text.{line_feed}
use Rattle.text.proofs.Lines.{next-stop}
use Rattle.decode.specs.Decoding.{decoded_at}
use Rattle.stretches.specs.declared.Ahead.{Ahead}
use Rattle.stretches.specs.Lookahead.{past_blanks, ahead}

-- a block that is ahead of a place between two lines
pub record Meets (r : Reader) (t : List ℕ) (from : Location) (x : Ahead) : Type 0 where
  pub past : x.at ≡ past_blanks t from
  pub inside : x.at.offset < length t
  pub block : get_or t x.at.offset 0 ≡ line_feed → ⊥
  pub decoded : x.decoded ≡ decoded_at r t x.at.offset

module _ (r : Reader) (t : List ℕ) (from : Location) where
  abbrev next : Location
  next = past_blanks t from

  abbrev found : Ahead
  found = record { at = next; decoded = decoded_at r t next.offset }

  -- whether the text has the place of the next block
  pub ahead-some : next.offset < length t → ahead r t from ≡ Some found
  unfolding ahead
  ahead-some i = rw (lt-ltb next.offset (length t) i) refl

  pub ahead_none : length t ≤ next.offset → ahead r t from ≡ None
  unfolding ahead
  ahead_none i = rw (le-ltb next.offset (length t) i) refl

  found_meets : next.offset < length t → Meets r t from found
  found_meets i = record { past = refl; inside = i; block = next-stop t from.offset next.offset refl i; decoded = refl }

  pub ahead-block : (x : Ahead) → ahead r t from ≡ Some x → Meets r t from x
  ahead-block x e = go (ltb next.offset (length t)) refl
    where
      go : (b : Bool) → ltb next.offset (length t) ≡ b → Meets r t from x
      go false p = absurd (none-some x (sym (ahead_none (ltb-false next.offset (length t) p)) ∙ e))
      go true p =
          let i = ltb-true next.offset (length t) p in
          subst (Meets r t from) (same_Some found x (sym (ahead-some i) ∙ e)) (found_meets i)

  pub ahead_nothing : ahead r t from ≡ None → length t ≤ next.offset
  ahead_nothing e = go (ltb next.offset (length t)) refl
    where
      go : (b : Bool) → ltb next.offset (length t) ≡ b → length t ≤ next.offset
      go false p = ltb-false next.offset (length t) p
      go true p = absurd (none-some found (sym e ∙ ahead-some (ltb-true next.offset (length t) p)))
