pub mod Keys
pub mod RowLaws
pub mod Standing
pub mod Leading
pub mod SliceLaws
pub mod Covering
pub mod Pairs
mod Bucketed
pub mod All
pub mod Offered
