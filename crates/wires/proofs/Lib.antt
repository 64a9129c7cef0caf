pub mod ByteLemmas
pub mod ChunkLemmas
pub mod PieceLemmas
pub mod WireLemmas
