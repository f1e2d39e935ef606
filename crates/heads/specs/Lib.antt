pub mod TwoHeads
pub mod Plates
