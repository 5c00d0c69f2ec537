-- Laws that the functions' proofs cite.
pub mod Closing
pub mod Sizes
pub mod Opening
