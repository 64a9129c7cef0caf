pub mod Clean
pub mod Lines
