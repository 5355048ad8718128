pub mod Offered
mod Addresses
mod Cuts
mod Numerals
