pub mod Ranges
pub mod Bits
pub mod Tests
pub mod Modes
