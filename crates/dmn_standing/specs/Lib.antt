pub mod Defs
pub mod Standing
pub mod Payment
pub mod Dues
