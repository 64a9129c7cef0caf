pub mod Processors
pub mod Sleepers
pub mod Answers
