pub mod memory
pub mod steps
pub mod owed
pub mod invariant
pub mod delivery
pub mod completion
pub mod transcript
