pub mod Defs
pub mod Callers
pub mod Outcome
pub mod Passing
pub mod Steps
pub mod Room
