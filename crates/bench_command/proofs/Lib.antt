mod Drawing
mod KeyBytes
mod Measuring
mod Tallies
mod Unrefused
pub mod Offered
