pub mod ShownText
pub mod Traces
