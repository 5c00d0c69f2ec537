pub mod Bytes
pub mod Numerals
pub mod Word
pub mod ByLetter
pub mod Adding
pub mod FirstLine
pub mod Gathering
