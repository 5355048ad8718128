pub mod Rest
pub mod Edges
pub mod Allowed
pub mod Laws
pub mod RestExamples
pub mod EdgesExamples
