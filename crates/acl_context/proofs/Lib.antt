mod Adding
mod Building
mod Refusals
mod Serving
mod Uncovered
pub mod Offered
