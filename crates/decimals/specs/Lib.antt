pub mod Reading
pub mod Writing
pub mod Printed
