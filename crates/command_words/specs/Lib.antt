pub mod Options
pub mod BenchWords
pub mod Command
pub mod CommandExamples
pub mod CommandLine
