pub mod MapCalls
pub mod Remaps
pub mod Puts
pub mod Spaces
pub mod PageFaults
pub mod Lent
