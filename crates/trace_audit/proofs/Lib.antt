pub mod Inputs
pub mod ShownText
