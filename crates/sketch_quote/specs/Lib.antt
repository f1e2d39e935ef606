pub mod Checks
pub mod WaysOut
pub mod Accepted
