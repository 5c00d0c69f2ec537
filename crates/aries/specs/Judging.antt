-- What is judged besides the block itself: refusals 3, 15, 16 and 17, or none of them. (Document 01, the seventeen
-- refusals, and "own hits" in the paragraph on demand 3.)
use Rattle.std.specs.Prelude.{Bool, true, false, ◌&&◌, ℕ, ◌/◌, leb, ltb, ℤ, nat_abs, None, Option, Some}
use Rattle.aries.specs.declared.job.Job.{Job}
use Rattle.aries.specs.declared.reader.Setting.{Setting}
use Rattle.aries.specs.declared.point.Point.{Point}

-- What the caller fixes for a whole text: the setting, and the places of a list of so many numbers that is lent; four are a
-- place, fewer at its end are none.
abbrev pub lending : Setting → ℕ → Job
lending setting numbers = record { setting = setting; places = numbers / 4 }

-- the most blocks (3), whether 15 and 16 are judged, and the places of the lent list (17)
pub record Judging : Type 0 where
  pub blocks : Option ℕ
  pub bounds : Bool
  pub places : Option ℕ

-- the most blocks that are carried out
abbrev pub most_blocks : ℕ
most_blocks = 100000

-- everything, for a job
abbrev pub limits : Job → Judging
limits job = record { blocks = Some most_blocks; bounds = true; places = Some job.places }

-- a part's own entries: 3, 15, 16 and 17 are not judged
abbrev pub unjudged : Judging
unjudged = record { blocks = None; bounds = false; places = None }

-- one more fits under the limit, if there is one
abbrev pub room : Option ℕ → ℕ → Bool
room None n = true
room (Some most) n = ltb n most

-- the test, where it is judged
abbrev pub judged : Bool → Bool → Bool
judged false test = true
judged true test = test

-- 15, and 6 at setting 0: a number is within ±999,999 hundredths
abbrev pub farthest : ℕ
farthest = 999999

abbrev pub is_near : ℤ → Bool
is_near z = leb (nat_abs z) farthest

unfoldable pub near : Point → Bool
near p = is_near p.x && is_near p.y
