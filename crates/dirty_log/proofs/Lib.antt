pub mod PageLemmas
pub mod SpaceLemmas
pub mod SendLemmas
pub mod SentLemmas
pub mod HandlerLemmas
pub mod RoundLemmas
pub mod KeptLemmas
