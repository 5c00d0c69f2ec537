pub mod CopyAll
pub mod CopyPart
