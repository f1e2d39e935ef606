pub mod Filled
pub mod WaysOut
