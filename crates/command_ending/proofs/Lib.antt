pub mod Offered
mod Plans
mod Links
mod Gained
mod Stops
mod Told
mod Inputs
mod Outputs
