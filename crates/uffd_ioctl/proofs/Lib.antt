pub mod MapCallLemmas
pub mod NumberLemmas
pub mod AnswerLemmas
pub mod ChangeLemmas
pub mod RemapLemmas
pub mod AccessLemmas
pub mod CallLemmas
pub mod MoveLemmas
mod EventLemmas
pub mod InstallLemmas
pub mod RegisterLemmas
pub mod LentPages
pub mod LentLemmas
