pub mod Lists
pub mod Endings
pub mod Counts
