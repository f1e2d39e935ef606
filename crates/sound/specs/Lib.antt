pub mod OnePlace
pub mod Either
pub mod Places
pub mod Cells
pub mod Sums
pub mod Upward
pub mod Seven
