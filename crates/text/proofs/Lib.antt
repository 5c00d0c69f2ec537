pub mod Lines
pub mod Cleaning
