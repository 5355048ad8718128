pub mod Covered
pub mod CoveredExamples
pub mod Laws
