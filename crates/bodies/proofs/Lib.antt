pub mod Thence
pub mod Lines
pub mod Turns
pub mod Called
