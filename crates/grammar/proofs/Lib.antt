pub mod Grammar
pub mod MapText
pub mod LowerText
pub mod Sketch
