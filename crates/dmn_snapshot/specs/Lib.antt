pub mod Defs
pub mod Slot
pub mod Steps
pub mod Sure
