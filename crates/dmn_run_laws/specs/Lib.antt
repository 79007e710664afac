pub mod Defs
pub mod Fronts
pub mod Runs
pub mod Chains
