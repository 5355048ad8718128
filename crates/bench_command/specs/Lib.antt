pub mod Tally
pub mod Bench
