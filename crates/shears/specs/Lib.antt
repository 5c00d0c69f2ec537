pub mod Fractions
pub mod Cuts
