pub mod Finished
