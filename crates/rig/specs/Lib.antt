pub mod Claiming
pub mod Seats
pub mod Sections
pub mod Turns
