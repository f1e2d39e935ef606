pub mod Codes
pub mod FromCalls
pub mod Sums
