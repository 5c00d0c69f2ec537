pub mod Lookahead
pub mod Counted
pub mod Stretches
pub mod Begins
pub mod Turns
pub mod Sequels
pub mod Nearness
