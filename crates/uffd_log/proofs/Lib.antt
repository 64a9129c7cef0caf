pub mod Keywords
pub mod OneToken
pub mod Words
