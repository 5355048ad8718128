pub mod Examples
pub mod Invariant
pub mod Jobs
pub mod Laws
pub mod Machine
pub mod Rows
pub mod Standing
