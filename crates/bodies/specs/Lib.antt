pub mod Calling
pub mod Stored
