pub mod Explaining
pub mod Unread
