pub mod Laws
pub mod Moved
pub mod Owed
pub mod PageRuns
pub mod Places
pub mod Replies
pub mod Spaces
pub mod Steps
