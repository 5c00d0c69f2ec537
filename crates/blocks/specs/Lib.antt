pub mod Counting
pub mod Decoding
pub mod Ranges
