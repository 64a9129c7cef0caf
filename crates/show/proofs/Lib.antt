pub mod OwedLines
pub mod Passing
pub mod Reached
