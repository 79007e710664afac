pub mod Gates
pub mod Parts
pub mod Counts
pub mod Sizes
