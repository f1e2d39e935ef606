pub mod Listing
pub mod WaysOut
