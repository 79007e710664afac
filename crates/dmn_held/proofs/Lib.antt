pub mod Texts
pub mod Rest
pub mod Sized
pub mod Whole
