pub mod Laying
pub mod WaysOut
