pub mod Tops
pub mod Running
