mod ToldLaws
mod KeptLaws
mod HeardLaws
mod HeldLaws
mod MadeLaws
mod ReadingLaws
mod WritingLaws
mod FileLaws
mod TogetherLaws
pub mod Offered
