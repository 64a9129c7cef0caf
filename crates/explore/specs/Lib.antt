pub mod Explorations
pub mod Plans
