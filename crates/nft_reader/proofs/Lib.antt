pub mod Counting
pub mod Folding
pub mod Folds
pub mod Spreading
pub mod Texts
pub mod Views
pub mod Parts
pub mod Elements
