pub mod Table
pub mod Tables
pub mod Bounds
pub mod Angles
pub mod Rounding
pub mod Examples
