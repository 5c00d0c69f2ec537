pub mod Answers
pub mod Cleaned
pub mod Exported
