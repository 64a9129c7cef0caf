pub mod Answers
pub mod Codes
pub mod Core
pub mod Headline
pub mod Worlds
