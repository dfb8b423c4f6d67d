pub mod Rounds
pub mod Tally
