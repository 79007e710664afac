pub mod Defs
pub mod OnePass
pub mod Branch
pub mod BranchText
