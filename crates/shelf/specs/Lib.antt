pub mod PlatesLent
pub mod Putting
pub mod Pairs
pub mod Searching
pub mod Sorting
pub mod WaysOut
