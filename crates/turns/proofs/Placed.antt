-- Laws of a block that has begun, by the stage and by what it is.
use mathlib.Core.Path.{◌≡◌, refl}
use mathlib.Core.Bool.{false}
use Rattle.aries.specs.declared.block.Block.{Block}
use Rattle.aries.specs.declared.block.Outside.{Outside}
use Rattle.aries.specs.declared.point.Point.{Point}
use Rattle.aries.specs.declared.setup.Stage.{Stage}
use Rattle.aries.specs.declared.setup.Stage.TheVariants.{Fresh, Running, Storing, Ended}
use Rattle.aries.specs.Program.{in_place, is_machine, is_storing, starts_program}
use Rattle.turns.specs.Turns.{Alone}

-- at a stage where only G92 may come no body is being stored
pub not_storing : (t : Stage) → Alone t → is_storing t ≡ false
not_storing Fresh a = refl
not_storing Running a = absurd a
not_storing Storing a = absurd a
not_storing Ended a = refl

-- after G50 no block is in its place
pub not_fresh-at : (t : Stage) (b : Block) → Alone t → (t ≡ Fresh → ⊥) → in_place t b ≡ false
not_fresh-at Fresh b a h = absurd (h refl)
not_fresh-at Running b a h = absurd a
not_fresh-at Storing b a h = absurd a
not_fresh-at Ended b a h = refl

-- a block that may stand in a body is not G92
pub not_outside-at : (b : Block) → ((o : Outside) → b ≡ Block.Outside o → ⊥) → starts_program b ≡ false
not_outside-at (Block.Direct d) h = refl
not_outside-at (Block.Call k) h = refl
not_outside-at (Block.Outside o) h = absurd (h o refl)

-- nor is another one outside bodies
pub not_machine-at : (o : Outside) → ((p : Point) → o ≡ Outside.Machine p → ⊥) → is_machine o ≡ false
not_machine-at (Outside.Machine p) h = absurd (h p refl)
not_machine-at Outside.End h = refl
not_machine-at (Outside.Offset a) h = refl
not_machine-at (Outside.Layout l) h = refl
not_machine-at (Outside.Open k) h = refl
not_machine-at (Outside.Close k) h = refl
not_machine-at (Outside.Copy c) h = refl
