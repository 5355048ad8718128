pub mod ImageExamples
pub mod Laws
pub mod Loading
pub mod ImageReading
pub mod Spelling
