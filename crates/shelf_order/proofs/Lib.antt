pub mod Insertion
pub mod Sorted
pub mod Shelved
pub mod Order
