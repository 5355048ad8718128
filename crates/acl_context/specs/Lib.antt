pub mod Add
pub mod AddExamples
pub mod Batch
pub mod BatchExamples
pub mod Context
