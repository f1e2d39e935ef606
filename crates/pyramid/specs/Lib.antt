pub mod PyramidPart
pub mod Four
pub mod Small
pub mod Turn
pub mod Sums
pub mod Upward
pub mod Cells
pub mod Fresh
