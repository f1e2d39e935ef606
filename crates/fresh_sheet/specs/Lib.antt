pub mod Rows
pub mod Filling
