mod AnswersLaws
mod CaptureLaws
mod FillLaws
mod HeaderLaws
mod NextAnswers
mod NextLaws
mod ReaderLaws
mod StartLaws
pub mod Offered
