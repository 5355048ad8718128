pub mod Taken
pub mod PortWords
pub mod MemberWords
pub mod ServiceWords
pub mod JoinedWords
pub mod Steps
pub mod Opening
pub mod Masks
