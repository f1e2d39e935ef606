pub mod Squares
pub mod Blocks
