pub mod Buffers
pub mod Decimals
pub mod Listing
pub mod Examples
