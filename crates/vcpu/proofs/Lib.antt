pub mod ProcessorLemmas
