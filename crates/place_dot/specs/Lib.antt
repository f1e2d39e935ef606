pub mod DotDue
pub mod Small
pub mod Placed
