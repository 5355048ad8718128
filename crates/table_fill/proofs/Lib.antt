pub mod Nodes
pub mod Sounds
pub mod Offered
pub mod Merged
pub mod Deciding
pub mod Given
