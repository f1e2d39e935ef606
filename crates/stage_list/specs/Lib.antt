pub mod Items
pub mod PromiseOfCode
pub mod OneItem
pub mod ManyItems
