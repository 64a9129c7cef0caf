pub mod HeadLines
pub mod Listing
pub mod Reading
