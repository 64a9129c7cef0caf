pub mod Codes
pub mod Modes
