pub mod Holes
pub mod Counts
pub mod Checks
pub mod Repeats
