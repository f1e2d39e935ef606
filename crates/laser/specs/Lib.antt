pub mod SheetLent
pub mod Running
pub mod WaysOut
