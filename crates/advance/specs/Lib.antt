pub mod Ends
pub mod Advancing
