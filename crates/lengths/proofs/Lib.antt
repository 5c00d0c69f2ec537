pub mod Arms
pub mod Sized
pub mod Hundredths
