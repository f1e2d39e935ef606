pub mod Restoring
pub mod Rows
pub mod Anew
pub mod WaysOut
