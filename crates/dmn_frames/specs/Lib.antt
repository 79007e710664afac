pub mod Defs
pub mod Frames
pub mod Reading
pub mod Steps
pub mod Room
pub mod Stamps
pub mod Laws
