pub mod Values
pub mod Names
pub mod Assumed
pub mod AddressSets
pub mod Packets
pub mod ValuesExamples
