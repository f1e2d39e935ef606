pub mod Outflow
