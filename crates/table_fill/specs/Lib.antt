pub mod Filled
pub mod FilledExamples
pub mod Laws
pub mod Serves
pub mod Tries
