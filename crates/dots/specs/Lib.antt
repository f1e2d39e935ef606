pub mod Placing
pub mod Marks
pub mod Near
pub mod SoundTest
pub mod Unburnt
