pub mod Levels
pub mod Waiting
pub mod Halving
pub mod Branches
pub mod Judged
