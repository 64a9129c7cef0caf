pub mod Texts
pub mod Flight
pub mod Frames
pub mod Rules
pub mod Writing
