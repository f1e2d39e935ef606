pub mod Stage
pub mod OneAction
pub mod LastKept
pub mod Theorem
pub mod Clauses
pub mod Example
