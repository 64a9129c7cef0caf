pub mod Behind
pub mod Outcomes
pub mod Sayable
