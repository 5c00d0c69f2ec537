pub mod Carrying
pub mod Comes
pub mod Holes
pub mod Offsets
