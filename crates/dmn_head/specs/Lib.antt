pub mod Defs
pub mod Head
pub mod Fields
pub mod Values
pub mod Routes
pub mod Wants
pub mod Router
pub mod Steps
