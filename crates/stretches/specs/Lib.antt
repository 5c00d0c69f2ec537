pub mod Hits
pub mod Lookahead
pub mod Stretches
