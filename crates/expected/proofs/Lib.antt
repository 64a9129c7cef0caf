pub mod Counting
pub mod Cuts
pub mod Lines
pub mod Pieces
pub mod Reached
pub mod Settings
pub mod Whole
