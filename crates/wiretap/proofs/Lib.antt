pub mod Puts
pub mod Pieces
pub mod OneLine
pub mod Whole
