pub mod Table
pub mod Parts
