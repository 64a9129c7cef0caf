pub mod Chunks
pub mod Codes
pub mod Lanes
