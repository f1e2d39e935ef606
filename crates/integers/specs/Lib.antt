pub mod Tests
pub mod Linear
pub mod Sums
pub mod Lists
pub mod Machine
pub mod Fill
pub mod Loops
pub mod Totals
