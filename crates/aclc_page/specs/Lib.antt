pub mod Given
pub mod Words
pub mod Grown
pub mod Ran
pub mod Rows
pub mod Taking
