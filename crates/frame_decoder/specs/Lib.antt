pub mod Versions
pub mod Headers
pub mod Streams
pub mod Feeding
pub mod Reading
pub mod Taking
pub mod Heads
