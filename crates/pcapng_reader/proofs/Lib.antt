mod AnswersLaws
mod BeginLaws
mod BlockEnds
mod BlockLaws
mod CaptureLaws
mod FollowLaws
mod FrontLaws
mod Fronts
mod LongLaws
mod NextLaws
mod PacketLaws
mod ReadLaws
mod ShortLaws
mod StartLaws
mod Steps
mod TellLaws
pub mod Offered
