pub mod Listing
pub mod Outputs
