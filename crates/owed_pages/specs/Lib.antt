pub mod Tables
pub mod Owed
