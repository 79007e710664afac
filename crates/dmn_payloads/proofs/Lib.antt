pub mod Version
pub mod Paying
pub mod Sets
