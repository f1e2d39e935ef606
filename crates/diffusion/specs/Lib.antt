pub mod OneTurn
pub mod Places
pub mod Weights
pub mod Shares
pub mod Turns
pub mod Inside
pub mod Placing
