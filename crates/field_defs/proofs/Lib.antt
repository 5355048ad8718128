pub mod Offered
mod Families
mod Faultless
mod Filled
mod FirstFault
mod Groups
mod Keys
mod Sizes
mod Wild
