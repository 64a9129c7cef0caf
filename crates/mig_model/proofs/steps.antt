-- What each step does to a world, and what holds along every run.
pub mod StepWorlds
pub mod StepLemmas
pub mod StepCases
pub mod StepAnswers
pub mod StepPromises
pub mod AcceptedSteps
pub mod PartsChanged
pub mod WokenSteps
pub mod EveryStep
pub mod ReachedLemmas
pub mod Runs
pub mod FirstWorld
