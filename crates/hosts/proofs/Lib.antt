pub mod UnwatchedLemmas
