pub mod Cuts
pub mod Sizes
pub mod Wholes
