pub mod Folds
pub mod JoinedWords
pub mod ListLines
pub mod NamedPlaces
pub mod Reaching
pub mod SaidChains
