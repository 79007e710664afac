pub mod Defs
pub mod Serving
pub mod Outcome
pub mod Laws
pub mod Stamps
pub mod Bodies
pub mod Steps
pub mod Room
