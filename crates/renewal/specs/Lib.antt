pub mod OverPlaces
pub mod Places
pub mod Steps
pub mod Chosen
pub mod Made
pub mod Upward
pub mod Around
pub mod Lent
