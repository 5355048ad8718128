pub mod GroupExamples
pub mod Groups
pub mod SizeExamples
pub mod Sizes
