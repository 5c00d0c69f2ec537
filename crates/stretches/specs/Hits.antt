-- Direct blocks by what their entries are.
use Rattle.std.specs.Prelude.{Bool, true, false}
use Rattle.aries.specs.declared.block.Direct.{Direct}
use Rattle.aries.specs.declared.block.Direct.TheVariants.{Lone, Punch, Move, PatternOrigin, RunPattern, Recall, Nibble, Idle, Stop}

-- hits, if any, and no stop
abbrev pub makes_hits : Direct → Bool
makes_hits Lone = false
makes_hits (Punch a tool) = true
makes_hits (Move a tool) = false
makes_hits (PatternOrigin a) = false
makes_hits (RunPattern p tool memory) = true
makes_hits (Recall n) = true
makes_hits (Nibble on) = false
makes_hits Idle = false
makes_hits (Stop optional) = false
