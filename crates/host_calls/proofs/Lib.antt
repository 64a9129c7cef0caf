pub mod AreaRuns
pub mod MadeCalls
pub mod ReadSteps
pub mod Woken
pub mod ListedCalls
pub mod Lines
pub mod StepLines
