pub mod Defs
pub mod Input
pub mod Init
