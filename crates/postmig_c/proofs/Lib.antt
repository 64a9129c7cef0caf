pub mod Words
pub mod HandleWords
pub mod Runners
pub mod Waiting
pub mod Faults
pub mod Statuses
pub mod Pieces
