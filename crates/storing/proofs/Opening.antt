-- Laws of a U line: the ways through its first run, and through storing its body.
use Rattle.std.specs.Prelude.{None, Some}
use mathlib.Core.Path.{◌≡◌, refl}
use mathlib.Core.Bool.{true, false}
use mathlib.Core.List.{List}
use Prim.Native.Nat.{ℕ, ◌+◌, ◌-◌, ◌≤◌, ◌<◌}
use native.Mathlib.Numerals.{add-one}
use borrow.Author.Tests.{le-leb, lt-leb}
use lib.ListN.{drop}
use Rattle.aries.specs.declared.macros.Macros.{Macros}
use Rattle.aries.specs.declared.refusal.Refusal.TheVariants.{NotClosed, StoreFull}
use Rattle.aries.specs.declared.setup.Setup.{Setup}
use Rattle.aries.specs.declared.state.Progress.{Progress}
use Rattle.aries.specs.Outcome.{Out, refused}
use Rattle.aries.specs.Text.{lines}
use Rattle.aries.specs.Entries.{Made, no_entry, map_after}
use Rattle.aries.specs.Judging.{Judging, limits}
use Rattle.aries.specs.Macros.{Body, part, bodies_of, storing, characters, most_calls, call, run_lines, run_body}
use Rattle.aries.specs.Reader.{reader_of}
use Rattle.aries.specs.Setup.{ordinary_frame}
use Rattle.aries.specs.Bodies.{body_size, most_characters, runs_first, first_run, body_from, stored_at, Store, with_stored, open_body}
use Rattle.aries.specs.Runs.{Lent, entries_made, Ran}
use Rattle.aries.proofs.Runs.{ran-refused, ran-map, mapped}
use Rattle.storing.specs.Opening.{Opens}

-- ---- The first run

module _ (j : Judging) (text : List ℕ) (m : Macros) (n : ℕ) (b : Body) (s : Setup) (g : Progress) where
  -- only stored
  pub runs_not : runs_first n s.sheet ≡ false → first_run j text m n b s g ≡ no_entry g
  unfolding first_run
  runs_not e = simp (first_run, e)

  -- the lines of the body, in the frame of blocks outside bodies
  pub runs_once : runs_first n s.sheet ≡ true → first_run j text m n b s g ≡ run_lines j (call j (bodies_of text m) (most_calls - 1)) (ordinary_frame s) b.line (lines b.bytes) g
  unfolding first_run run_body
  runs_once e = simp (first_run, e)

-- ---- Storing

module _ (t : List ℕ) (n start line : ℕ) (s : Setup) (m : Macros) (g : Progress) where
  abbrev whole : Judging → Store → Out (Made Store)
  whole j = open_body j t n start line (lines (drop start t)) s

  -- no V line
  pub opens-unclosed :
      {l : Lent} → body_size (reader_of (ordinary_frame s) g.state) n (lines (drop start t)) ≡ None
      → Opens (refused NotClosed line) s.job l l (with_stored m g) whole
  unfolding open_body
  opens-unclosed e =
      let o : whole (limits s.job) (with_stored m g) ≡ refused NotClosed line = simp e in
      rw o ran-refused

  -- a body that ends, and the bodies with it, which have so many characters
  module _
      {size count : ℕ} {kept : Macros}
      (found : body_size (reader_of (ordinary_frame s) g.state) n (lines (drop start t)) ≡ Some size)
      (stored : kept ≡ storing m n (record { start = start; end = start + size; line = line + 1 })) (counted : count ≡ characters kept) where
    kept_is : kept ≡ stored_at m n start size line
    kept_is = rw (← add-one line) stored

    -- too many
    pub opens-full : {l : Lent} → most_characters < count → Opens (refused StoreFull line) s.job l l (with_stored m g) whole
    unfolding open_body
    opens-full h =
        let many : most_characters < characters (stored_at m n start size line) = rw (counted, kept_is) at h in
        let o : whole (limits s.job) (with_stored m g) ≡ refused StoreFull line = simp (found, lt-leb _ most_characters many) in
        rw o ran-refused

    -- they are stored, after the first run
    pub opens-ran :
        {r : Out Progress} {before after : Lent} → count ≤ most_characters
        → Ran entries_made s.job r before after g.entries (first_run (limits s.job) t m n (record { line = line + 1; bytes = part t start (start + size) }) s g)
        → Opens (mapped (with_stored kept) r) s.job before after (with_stored m g) whole
    unfolding open_body
    opens-ran h ran =
        let run = first_run (limits s.job) t m n (body_from t start size line) s g in
        let few : characters (stored_at m n start size line) ≤ most_characters = rw (counted, kept_is) at h in
        let o : whole (limits s.job) (with_stored m g) ≡ map_after (with_stored (stored_at m n start size line)) run = simp (found, le-leb _ most_characters few) in
        rw (o, kept_is) (ran-map (with_stored (stored_at m n start size line)) (λ left. refl) run (rw (add-one line) at ran))
