-- What a block is read by, besides its words: the decimal point setting that the caller states (document 02, §1), and the
-- letters that a G73 has given (§5).
use Rattle.std.specs.Prelude.{cond, ℤ, pos, is_some}
use Rattle.signed.specs.Signed.{eq_z}
use Rattle.aries.specs.declared.reader.Setting.{Setting}
use Rattle.aries.specs.declared.reader.Setting.TheVariants.{Hundredths, Millimetres}
use Rattle.aries.specs.declared.reader.Reader.{Reader}
use Rattle.aries.specs.declared.reader.Given.{Given}
use Rattle.aries.specs.declared.state.Frame.{Frame}
use Rattle.aries.specs.declared.state.State.{State}

-- setting 0, and any other number counts as 1
abbrev pub setting_of : ℤ → Setting
setting_of number = cond (eq_z number (pos 0)) Millimetres Hundredths

-- reading at a setting, with letters given
abbrev pub reader_at : Setting → Given → Reader
reader_at s given = record { setting = s; given = given }

-- the letters that a state has: X and Y that a G73 has given
abbrev pub given_of : State → Given
given_of s = record { x = is_some s.spans.x; y = is_some s.spans.y }

-- what a block is read by in a frame: the setting of its job, which holds for the whole text, and the letters that the state has
abbrev pub reader_of : Frame → State → Reader
reader_of f s = reader_at f.job.setting (given_of s)
