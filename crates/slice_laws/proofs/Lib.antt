pub mod Acts
pub mod Migrated
