pub mod Contradictions
pub mod Histories
