pub mod Starting
pub mod Filling
