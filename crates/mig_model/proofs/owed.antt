-- What a switch leaves owed, and which message or call settles it.
pub mod SettledLemmas
pub mod FaultLemmas
pub mod SeenLemmas
pub mod SettledCalls
pub mod CalledLemmas
pub mod EventLemmas
pub mod ChangedLemmas
pub mod PairLemmas
pub mod TriedLemmas
pub mod SourceMessages
pub mod SourceCalls
pub mod SettledPromises
