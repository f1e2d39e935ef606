pub mod Range
pub mod Holds
pub mod Clauses
