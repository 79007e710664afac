pub mod Defs
pub mod Words
pub mod Outcome
