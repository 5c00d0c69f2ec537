pub mod Integers
pub mod Tests
