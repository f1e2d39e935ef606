pub mod Offsets
pub mod Round
pub mod Run
