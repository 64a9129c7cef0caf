pub mod Drawing
pub mod Escapes
pub mod Given
pub mod Names
pub mod Safe
pub mod Sheets
pub mod Trees
