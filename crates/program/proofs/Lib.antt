-- Laws that the functions' proofs cite.
pub mod Turns
pub mod RunFrom
pub mod Called
pub mod Alone
pub mod Stretches
pub mod Underway
