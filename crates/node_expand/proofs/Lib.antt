pub mod Offered
mod AsRange
mod Bytes
mod Changes
mod Compared
mod Completions
mod EdgeRests
mod Free
mod Steps
