pub mod Areas
pub mod Edits
pub mod Gaps
pub mod Ranges
