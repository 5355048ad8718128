pub mod AttributeWords
pub mod LawfulLines
pub mod FileLines
mod FoundPorts
pub mod PrintedParts
pub mod PrintedLines
pub mod PrintedFiles
pub mod PrintedRules
pub mod JoinedParts
mod SplitParts
mod SplitLines
mod NetworkBounds
mod LineBounds
mod AcceptedFiles
pub mod Offered
