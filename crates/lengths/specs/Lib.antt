pub mod Sized
pub mod Hundredths
