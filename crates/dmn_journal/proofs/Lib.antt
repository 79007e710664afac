pub mod Append
pub mod Creating
pub mod Unique
mod Pieces
mod Heads
pub mod Found
pub mod Texts
mod Formats
