pub mod FourBlocks
pub mod Owing
pub mod Clear
pub mod Work
