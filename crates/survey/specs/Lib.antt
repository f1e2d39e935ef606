pub mod Within
pub mod BlockErrors
pub mod Errors
pub mod Walk
pub mod Levels
pub mod WaysOut
