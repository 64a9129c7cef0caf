pub mod QueueLemmas
pub mod ModeLemmas
mod RunLemmas
pub mod EveryLemmas
pub mod OpenLemmas
