-- The plates of document 01, by computation.
pub mod Plates
-- Laws of the definitions.
pub mod Words
pub mod Ranges
pub mod Points
pub mod Counts
pub mod Outcomes
pub mod InLine
pub mod LineCounts
pub mod Joined
pub mod Lanes
pub mod CopyPlaces
-- Demand 3: a body against itself moved and without limits, a part at a place, all copies, a run; then the four theorems.
pub mod Follows
pub mod BodyRuns
pub mod Parts
pub mod Copies
pub mod CopyRuns
pub mod LayoutSentence
pub mod ReferenceMoves
pub mod Orders
pub mod BothOrNeither
-- What makes them theorems about programs.
pub mod Kept
pub mod CopyBlocks
pub mod CopyPairs
-- What is proved of mirrors.
pub mod MirrorRuns
pub mod MirrorBlocks
-- What is proved of refusals and, in the same pass, of tools; and so of the tally.
pub mod ToolWords
pub mod Sound
pub mod Refusals
pub mod Tools
-- What is proved of settings.
pub mod Settings
-- What is proved of G66.
pub mod Shear
-- Laws that the functions' proofs cite.
pub mod Advanced
pub mod Carried
pub mod Judging
pub mod Mirrors
pub mod Steady
pub mod Given
pub mod Calls
pub mod Runs
pub mod Tally
pub mod Tallied
pub mod OneTool
pub mod Storage
pub mod Tags
pub mod WidePoints
mod Marks
