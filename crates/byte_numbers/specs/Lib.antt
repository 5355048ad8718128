pub mod Number
pub mod NumberExamples
