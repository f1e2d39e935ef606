pub mod Interleaved
pub mod Relaid
pub mod Cells
pub mod Filling
pub mod Sums
pub mod Renewed
pub mod Lent
pub mod Renamed
