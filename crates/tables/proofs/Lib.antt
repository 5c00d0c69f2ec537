pub mod Tables
pub mod Parts
