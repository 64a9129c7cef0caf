-- A migration can complete, and stays complete.
pub mod CompletionStopped
pub mod Completion
pub mod StaysComplete
pub mod ViewPromises
