pub mod DueSteps
pub mod StoppedSteps
pub mod Strategy
pub mod LeadLemmas
pub mod PushedLemmas
pub mod OwnSteps
