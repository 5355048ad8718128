pub mod Fleet
pub mod Turn
