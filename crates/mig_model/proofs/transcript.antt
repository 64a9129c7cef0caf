-- The commands that wait, their replies and the transcript.
pub mod PromiseLemmas
pub mod WaitingCommands
pub mod WaitingAccesses
pub mod Calls
pub mod CallReplies
pub mod RightCommands
pub mod WorldLaws
