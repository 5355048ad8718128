mod FoundPlaces
pub mod Ahead
pub mod Successors
pub mod Leads
pub mod RowNumbers
pub mod Zipped
pub mod Merging
pub mod Placing
pub mod Probing
