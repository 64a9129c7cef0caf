pub mod TableLemmas
pub mod LinkLemmas
pub mod GatherLemmas
pub mod OwedLemmas
