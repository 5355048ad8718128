pub mod Plan
pub mod Follow
pub mod Endings
pub mod StepEffects
pub mod Message
pub mod MessageExamples
