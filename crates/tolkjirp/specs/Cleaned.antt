-- What is left of a text's meaning once its length is known to be allowed.
use Rattle.std.specs.Prelude.{List, ℕ, length}
use Rattle.aries.specs.declared.reader.Setting.{Setting}
use Rattle.aries.specs.Outcome.{Out, ◌>>=◌}
use Rattle.aries.specs.Text.{stray_line, without_spaces, lines}
use Rattle.aries.specs.declared.entry.Entry.{Entry}
use Rattle.aries.specs.Judging.{lending}
use Rattle.aries.specs.Program.{no_stray, perform}

-- 2 looks at the whole text, and then its blocks are carried out
abbrev pub after_cleaning : Setting → List ℕ → ℕ → Out (List Entry)
after_cleaning setting text numbers = do
  _ ← no_stray (stray_line 1 text)
  perform (lending setting numbers) (without_spaces text) (length (lines text))
