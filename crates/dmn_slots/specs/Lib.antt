pub mod Defs
pub mod Slots
pub mod Laws
