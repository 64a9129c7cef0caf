pub mod Slices
pub mod Migrations
