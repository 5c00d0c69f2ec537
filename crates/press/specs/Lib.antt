pub mod Entries
pub mod Hits
