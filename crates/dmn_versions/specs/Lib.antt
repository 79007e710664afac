pub mod Defs
pub mod Laws
pub mod Trees
