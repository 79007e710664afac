pub mod Defs
pub mod Offices
pub mod Lasting
pub mod Steps
