pub mod Guests
pub mod Outcomes
pub mod Codes
