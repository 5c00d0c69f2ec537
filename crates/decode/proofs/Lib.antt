pub mod LineWords
pub mod Decoding
pub mod NearCalls
