pub mod Differences
pub mod Insertion
