pub mod LentLemmas
pub mod SoundLemmas
