pub mod Agreeing
pub mod Apart
pub mod Readers
pub mod Locations
pub mod Sources
pub mod Refuted
pub mod TickLists
