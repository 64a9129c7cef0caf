pub mod TestLemmas
pub mod RangeLemmas
