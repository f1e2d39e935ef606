pub mod MapLent
pub mod Total
pub mod Caps
