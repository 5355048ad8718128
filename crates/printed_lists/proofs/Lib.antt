pub mod Lines
pub mod Rules
pub mod Lists
pub mod Written
