pub mod Series
pub mod Sine
