pub mod Defs
pub mod Body
pub mod Fault
pub mod Frames
pub mod Shape
pub mod Spend
pub mod State
