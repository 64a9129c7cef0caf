pub mod Events
pub mod Readers
pub mod Shapes
pub mod Stores
