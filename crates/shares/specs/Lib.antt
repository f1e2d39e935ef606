pub mod Shares
pub mod Kernels
pub mod Neighbours
pub mod Stays
