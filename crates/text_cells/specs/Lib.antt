pub mod Ends
pub mod Cell
pub mod Cells
pub mod Found
pub mod FirstLine
