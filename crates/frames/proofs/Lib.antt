pub mod Answering
pub mod Feeding
pub mod Handing
pub mod Lengths
pub mod Pieces
pub mod Splitting
pub mod Whole
