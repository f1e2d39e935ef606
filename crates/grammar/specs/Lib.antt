pub mod Decimal
pub mod Fields
pub mod Lines
pub mod Grammar
pub mod MapText
pub mod LowerText
pub mod Sketch
