pub mod Calls
pub mod Entered
pub mod Same
pub mod Shaped
pub mod Stored
