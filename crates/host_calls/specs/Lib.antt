pub mod Calls
pub mod Made
pub mod Parts
pub mod Stepped
pub mod Texts
