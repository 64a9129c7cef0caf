pub mod Json
pub mod Owed
pub mod Shown
