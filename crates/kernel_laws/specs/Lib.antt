pub mod Agreement
pub mod Handlers
pub mod Reading
pub mod Maps
pub mod Logs
pub mod Example
