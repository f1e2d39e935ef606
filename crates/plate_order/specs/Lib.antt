pub mod TwoPlates
pub mod Finding
pub mod Comparing
