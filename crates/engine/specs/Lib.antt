pub mod Checking
pub mod Engine
pub mod Lines
pub mod Reading
pub mod Script
pub mod Worlds
