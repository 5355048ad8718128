mod Alike
mod Bounds
mod Growing
mod Keys
mod LineLaws
mod Marks
pub mod Offered
mod Reader
mod Hearing
mod Reporting
mod Shown
mod Streaming
mod Taking
mod WholeRecords
mod Writing
