pub mod Written
pub mod WaysOut
pub mod Accepted
