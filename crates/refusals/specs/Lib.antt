pub mod Powers
pub mod Lowest
pub mod Numbers
pub mod Names
