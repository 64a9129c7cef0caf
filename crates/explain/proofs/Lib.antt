pub mod Reports
pub mod WrongLemmas
