mod Aimed
mod Drawing
mod Held
mod Lawful
mod Words
pub mod Offered
