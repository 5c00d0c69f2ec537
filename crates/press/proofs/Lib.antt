pub mod Ends
pub mod Enter
pub mod Punch
