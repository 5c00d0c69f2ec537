pub mod Holes
pub mod Counts
pub mod Repeats
pub mod Checks
